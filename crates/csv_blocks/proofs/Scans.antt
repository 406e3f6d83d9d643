-- A text that is read in parts.
use Rattle.std.proofs.Common.{◌≡◌, ◌<◌, ◌+◌, ◌++◌, ◌∙◌, ℕ, List, [], ◌∷◌, true, false, Option, Some, None, refl, sym, ap, add-one, length, take, drop, get_or}
use Rattle.std.proofs.Math.Seq.{take-suc}
use Rattle.std.proofs.lemmas.List.{take-append-drop}
use Rattle.std.proofs.lemmas.List.Sums.{sum_by-append}
use Rattle.std.specs.Prelude.{cond, ◌==◌}
use Rattle.csv_strict.specs.Strict.{IsStrict, ends_text, next_state, run}
use Rattle.csv_strict.specs.declared.state.State.{State}
use Rattle.csv_strict.specs.declared.state.State.TheVariants.{Record}
use Rattle.csv_strict.proofs.Runs.{run-append}
use Rattle.csv_blocks.specs.Texts.{AreWhole, lines}

pub no-byte : (o : Option State) → run o [] ≡ o
unfolding run
no-byte None = refl
no-byte (Some s) = refl

none-run : (bytes : List ℕ) → run None bytes ≡ None
unfolding run
none-run [] = refl
none-run (b ∷ bytes) = refl

one-byte : (s : State) (b : ℕ) → run (Some s) (b ∷ []) ≡ next_state s b
unfolding run
one-byte s b = no-byte (next_state s b)

-- one more byte
pub next-byte : (o : Option State) (bytes : List ℕ) (i : ℕ) (s : State) → i < length bytes → run o (take i bytes) ≡ Some s
    → run o (take (i + 1) bytes) ≡ next_state s (get_or bytes i 0)
next-byte o bytes i s below e =
    let cut : take (i + 1) bytes ≡ take i bytes ++ (get_or bytes i 0 ∷ []) = rw (add-one i) (take-suc bytes i 0 below) in
    rw cut (run-append o (take i bytes) (get_or bytes i 0 ∷ []) ∙ (rw e (one-byte s (get_or bytes i 0))))

-- a byte may not come
pub stuck-byte : (o : Option State) (bytes : List ℕ) (i : ℕ) (s : State) → i < length bytes → run o (take i bytes) ≡ Some s
    → next_state s (get_or bytes i 0) ≡ None → run o bytes ≡ None
stuck-byte o bytes i s below e stuck =
    let stopped : run o (take (i + 1) bytes) ≡ None = next-byte o bytes i s below e ∙ stuck in
    let parts : bytes ≡ take (i + 1) bytes ++ drop (i + 1) bytes = sym (take-append-drop (i + 1) bytes) in
    ap (λ (xs : List ℕ). run o xs) parts ∙ (run-append o (take (i + 1) bytes) (drop (i + 1) bytes) ∙ (rw stopped (none-run (drop (i + 1) bytes))))

-- the bytes behind the first ones
pub run-rest : (o : Option State) (bytes : List ℕ) (count : ℕ) (s : State) (t : Option State) → run o (take count bytes) ≡ Some s → run o bytes ≡ t
    → run (Some s) (drop count bytes) ≡ t
run-rest o bytes count s t front all =
    ap (λ (x : Option State). run x (drop count bytes)) (sym front)
    ∙ (sym (run-append o (take count bytes) (drop count bytes)) ∙ (ap (λ (xs : List ℕ). run o xs) (take-append-drop count bytes) ∙ all))

-- one part after another
pub run-on : (o : Option State) (xs ys : List ℕ) (s : State) (t : Option State) → run o xs ≡ Some s → run (Some s) ys ≡ t → run o (xs ++ ys) ≡ t
run-on o xs ys s t first second = run-append o xs ys ∙ (ap (λ (x : Option State). run x ys) first ∙ second)

-- behind whole records the states begin anew
pub run-behind : (xs ys : List ℕ) → AreWhole xs → run (Some Record) (xs ++ ys) ≡ run (Some Record) ys
run-behind xs ys whole = run-on (Some Record) xs ys Record (run (Some Record) ys) whole refl

pub whole-append : (xs ys : List ℕ) → AreWhole xs → AreWhole ys → AreWhole (xs ++ ys)
whole-append xs ys first second = run-behind xs ys first ∙ second

pub nothing-whole : AreWhole []
nothing-whole = no-byte (Some Record)

-- a text with a byte that may not come, and one that may not end
pub stuck-text : (text : List ℕ) → run (Some Record) text ≡ None → IsStrict text → ⊥
stuck-text text stuck strict = let e : None ≡ Some strict.0 = sym stuck ∙ strict.1 in cc e

pub open-text : (text : List ℕ) (s : State) → run (Some Record) text ≡ Some s → ends_text s ≡ false → IsStrict text → ⊥
open-text text s reached open_end strict =
    let same : Some s ≡ Some strict.0 = sym reached ∙ strict.1 in
    let is : s ≡ strict.0 = cc same in
    let e : true ≡ false = sym strict.2 ∙ (ap ends_text (sym is) ∙ open_end) in
    cc e

pub lines-append : (xs ys : List ℕ) → lines (xs ++ ys) ≡ lines xs + lines ys
lines-append xs ys = sum_by-append (λ (b : ℕ). cond (b == 10) 1 0) xs ys
