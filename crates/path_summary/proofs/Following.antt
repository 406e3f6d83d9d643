-- A summary, then an action, if the tail has a last counter.
use Rattle.std.proofs.Common.{◌≡◌, ℕ, suc, ◌+◌, ◌<◌, List, [], ◌∷◌, ◌++◌, length, sym, ap, ap₂, ◌∙◌, arith, length-append}
use Rattle.semantics.specs.Summary.{Summary, left_by, turned_by}
use Rattle.semantics.specs.Time.{Action}
use Rattle.path_summary.specs.Rows.{Follows}
use Rattle.path_summary.proofs.Carrying.{popped_front, popped_last}

abbrev with_tail : Summary → List ℕ → Summary
with_tail f cs = record f { tail = cs }

left_last : (f : Summary) (old new : List ℕ) (c : ℕ) → old ≡ new ++ (c ∷ []) → left_by old f ≡ with_tail f new
left_last f [] new c e = let n = ap length e in absurd (omega (arith, n, length-append new (c ∷ [])))
left_last f (x ∷ xs) new c e = ap (with_tail f) (popped_front (x ∷ xs) new c e)

turned_last : (f : Summary) (old new : List ℕ) (c : ℕ) → old ≡ new ++ (c ∷ []) → turned_by old f ≡ with_tail f (new ++ (suc c ∷ []))
turned_last f [] new c e = let n = ap length e in absurd (omega (arith, n, length-append new (c ∷ [])))
turned_last f (x ∷ xs) new c e = ap₂ (λ ds d. with_tail f (ds ++ (suc d ∷ []))) (popped_front (x ∷ xs) new c e) (popped_last (x ∷ xs) new c e)

-- out of a loop
pub left_follows : (f : Summary) (new : List ℕ) (c : ℕ) → 0 < f.keep + length f.tail → f.tail ≡ new ++ (c ∷ []) → Follows Action.leave f (record { keep = f.keep; add = f.add; tail = new })
left_follows f new c h e = record { is = sym (left_last f f.tail new c e); may = h }

-- to a loop's next turn
pub turned_follows : (f : Summary) (new after : List ℕ) (c : ℕ) → 0 < f.keep + length f.tail → f.tail ≡ new ++ (c ∷ []) → after ≡ new ++ ((c + 1) ∷ []) → Follows Action.next f (record { keep = f.keep; add = f.add; tail = after })
turned_follows f new after c h e q =
    let n : c + 1 ≡ suc c = omega arith in
    record {
      is = ap (λ (cs : List ℕ). record { keep = f.keep; add = f.add; tail = cs }) (q ∙ ap (λ d. new ++ (d ∷ [])) n) ∙ sym (turned_last f f.tail new c e);
      may = h;
    }
