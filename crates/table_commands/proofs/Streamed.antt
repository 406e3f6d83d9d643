-- Lines that are written in pieces.
use Rattle.std.proofs.Common.{Result, Ok, Err, ◌≡◌, ◌≢◌, ◌⊎◌, ◌+◌, ◌-◌, ◌≤◌, ◌++◌, ◌∙◌, [], ◌∷◌, ℕ, List, Bool, true, false, Option, ap, sym, refl, subst, inl, inr, length, get_or, append_assoc, arith}
use Rattle.std.proofs.KnownBytes.{Appends-nil, Appends-trans}
use Rattle.std.proofs.lemmas.List.{length-append, get_or-append-add}
use Rattle.std.specs.Prelude.{OnOk, is_err, slice_index}
use Rattle.std.specs.Io.KnownBytes.{Appends}
use Rattle.collector.specs.Mark.{end_mark}
use Rattle.table_commands.specs.Streamed.{IsUnmarked, StaysUnmarked}

-- what was taken is what was given and what is left; so it is with more, of which some is given
pub more-given : (first taken bytes given old mid more new : List ℕ) → first ++ taken ≡ given ++ old → mid ≡ old ++ bytes → mid ≡ more ++ new
    → first ++ (taken ++ bytes) ≡ (given ++ more) ++ new
more-given first taken bytes given old mid more new e put split =
    sym (append_assoc first taken bytes) ∙ ap (λ (t : List ℕ). t ++ bytes) e ∙ append_assoc given old bytes ∙ ap (λ (t : List ℕ). given ++ t) (sym put ∙ split) ∙ sym (append_assoc given more new)

-- the last byte but one of the end mark
mark-at : (front : List ℕ) (n : ℕ) → n ≡ length front + 2 → get_or (front ++ end_mark) n 0 ≡ 100
mark-at front n e = ap (λ k. get_or (front ++ end_mark) k 0) e ∙ get_or-append-add front end_mark 2 0

-- what has another last byte but one doesn't end with the mark
pub other-end : (text lines : List ℕ) → 2 ≤ length lines → slice_index lines (length lines - 2) ≢ 100 → (front : List ℕ) → text ++ lines ≢ front ++ end_mark
other-end text lines some other front e =
    let long : length text + length lines ≡ length front + 4 = sym (length-append text lines) ∙ ap length e ∙ length-append front end_mark in
    let k : ℕ = length lines - 2 in
    let at : length text + k ≡ length front + 2 = omega (arith, long, some) in
    other (sym (get_or-append-add text lines k 0) ∙ ap (λ (t : List ℕ). get_or t (length text + k) 0) e ∙ mark-at front (length text + k) at)

-- nothing was written
no-end : (front : List ℕ) → [] ≢ front ++ end_mark
no-end [] e = cc
no-end (x ∷ front) e = cc

pub none-unmarked : (a : Option (List ℕ)) → IsUnmarked a a
none-unmarked a = ([], Appends-nil a, no-end)

pub stays-then : (mark : Bool) (a b c : Option (List ℕ)) → StaysUnmarked mark a b → c ≡ b → StaysUnmarked mark a c
stays-then mark a b c h e = subst (λ (o : Option (List ℕ)). StaysUnmarked mark a o) (sym e) h

pub none-stays : (mark : Bool) (a : Option (List ℕ)) → StaysUnmarked mark a a
none-stays false a = refl
none-stays true a = none-unmarked a

pub was-ok : {T E P : Type 0} → (r : Result T E) → is_err r ≡ false → OnOk r P → P
was-ok (Ok x) e p = p
was-ok (Err y) e p = absurd cc

pub more-unmarked : (a b c : Option (List ℕ)) (lines : List ℕ) → IsUnmarked a b → Appends b c lines → 2 ≤ length lines → slice_index lines (length lines - 2) ≢ 100 → IsUnmarked a c
more-unmarked a b c lines (text, has, ends) more some other = (text ++ lines, Appends-trans a b c text lines has more, other-end text lines some other)

-- the rest of a text is what is left, and the mark
pub rest-is : (first input given left rest : List ℕ) → first ≡ [] → first ++ ([] ++ input) ≡ given ++ left → rest ≡ left ++ end_mark → given ++ rest ≡ input ++ end_mark
rest-is first input given left rest none all e =
    ap (λ (t : List ℕ). given ++ t) e ∙ sym (append_assoc given left end_mark) ∙ ap (λ (t : List ℕ). t ++ end_mark) (sym all ∙ ap (λ (t : List ℕ). t ++ input) none)

pub unbroken : (broken : Bool) (a b : Option (List ℕ)) → broken ≡ false → (broken ≡ true) ⊎ IsUnmarked a b → IsUnmarked a b
unbroken broken a b whole (inl broke) = absurd (let t : true ≡ false = sym broke ∙ whole in cc)
unbroken broken a b whole (inr quiet) = quiet
