-- A text, byte by byte.
use Rattle.std.proofs.Common.{◌≡◌, ◌<◌, ◌≤◌, ◌+◌, ◌++◌, ◌∙◌, ℕ, zero, suc, List, [], ◌∷◌, true, false, length, get_or, slice_get, take, Option, Some, None, refl, sym, ap, add-one, arith}
use Rattle.std.proofs.Math.Seq.{take-suc}
use Rattle.csv_strict.specs.Strict.{IsPlace, IsRefused, IsStrict, Stops, ends_text, fault_of, run, next_state, state_at}
use Rattle.csv_strict.specs.declared.checking.Refusal.{Refusal}
use Rattle.csv_strict.specs.declared.state.State.{State}
use Rattle.csv_strict.specs.declared.state.State.TheVariants.{Record, Field, Bare, Quoted, Quote, Return}

none-run : (ys : List ℕ) → run None ys ≡ None
unfolding run
none-run [] = refl
none-run (y ∷ ys) = refl

pub run-append : (o : Option State) (xs ys : List ℕ) → run o (xs ++ ys) ≡ run (run o xs) ys
unfolding run
run-append None [] ys = refl
run-append None (x ∷ xs) ys = sym (none-run ys)
run-append (Some s) [] ys = refl
run-append (Some s) (x ∷ xs) ys = run-append (next_state s x) xs ys

one-byte : (s : State) (x : ℕ) → run (Some s) (x ∷ []) ≡ run (next_state s x) []
unfolding run
one-byte s x = refl

no-byte : (o : Option State) → run o [] ≡ o
unfolding run
no-byte None = refl
no-byte (Some s) = refl

-- one more byte
pub state_next : (text : List ℕ) (i : ℕ) (s : State) → i < length text → state_at text i ≡ Some s → state_at text (i + 1) ≡ next_state s (get_or text i 0)
state_next text i s below e =
    let cut : take (i + 1) text ≡ take i text ++ (get_or text i 0 ∷ []) = rw (add-one i) (take-suc text i 0 below) in
    rw cut (run-append (Some Record) (take i text) (get_or text i 0 ∷ []) ∙ (rw e (one-byte s (get_or text i 0) ∙ no-byte (next_state s (get_or text i 0)))))

-- no byte yet
pub state_first : (text : List ℕ) → state_at text 0 ≡ Some Record
unfolding run
state_first text = refl

-- in the midst of a text the place of a fault is where it stops
pub place-here : (s : State) (stop : ℕ) → IsPlace (fault_of s) stop stop
place-here Record stop = refl
place-here Field stop = refl
place-here Bare stop = refl
place-here Quoted stop = omega arith
place-here Quote stop = refl
place-here Return stop = refl

-- a text doesn't go on where it stops
stopped : (o : Option State) (text : List ℕ) (stop : ℕ) (state : State) → run o (take stop text) ≡ Some state → Stops state (slice_get text stop)
    → (last : State) → run o text ≡ Some last → ends_text last ≡ true → ⊥
unfolding run
stopped None text stop state before stops last all ends = let e : None ≡ Some state = sym (none-run (take stop text)) ∙ before in cc e
stopped (Some s) [] zero state before stops last all ends = let e : state ≡ last = cc in let f : true ≡ false = sym ends ∙ ap ends_text (sym e) ∙ stops in cc f
stopped (Some s) [] (suc stop) state before stops last all ends = let e : state ≡ last = cc in let f : true ≡ false = sym ends ∙ ap ends_text (sym e) ∙ stops in cc f
stopped (Some s) (b ∷ text) zero state before stops last all ends =
    let same : s ≡ state = cc in
    let none : next_state s b ≡ None = ap (λ (t : State). next_state t b) same ∙ stops in
    let e : None ≡ Some last = sym (none-run text) ∙ ap (λ (o : Option State). run o text) (sym none) ∙ all in
    cc e
stopped (Some s) (b ∷ text) (suc stop) state before stops last all ends = stopped (next_state s b) text stop state before stops last all ends

pub not-strict : (text : List ℕ) (refusal : Refusal) → IsRefused text refusal → IsStrict text → ⊥
not-strict text refusal r strict = stopped (Some Record) text r.stop r.state r.before r.stops strict.0 strict.1 strict.2
