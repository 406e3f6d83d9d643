-- Words that aren't empty, one after another.
use Rattle.std.proofs.Common.{◌≡◌, ◌≢◌, ◌<◌, ◌↔◌, ℕ, List, [], ◌∷◌, length, take, Bool, true, false, refl, sym, ap, subst, arith, not}
use Rattle.std.specs.Prelude.{IsTrue, ◌==◌}
use Rattle.std.specs.List.{AllByRecursion}
use Rattle.std.proofs.lemmas.List.{length-take-le}
use Rattle.std.proofs.lemmas.Bool.Decides.{eqb_tells}
use Rattle.std.proofs.Common.{inl, inr}
use Rattle.collector.specs.Pieces.{split_on}
use Rattle.collector.specs.Lines.{IsFilled}

abbrev pub Filled : List (List ℕ) → Type 0
Filled words = AllByRecursion IsFilled words

-- one more filled word is read
pub filled_more : (rest word after : List ℕ) (i : ℕ) (P : Type 0) → split_on 32 rest ≡ word ∷ split_on 32 after → i < length rest → i ≢ 0 → word ≡ take i rest → Filled (split_on 32 rest) ↔ P → Filled (split_on 32 after) ↔ P
filled_more rest word after i P cut lt some is so_far =
    let filled : 0 < length word = omega (arith, some, ap length is, length-take-le i rest (omega arith)) in
    (λ h. so_far.0 (subst (λ ws. Filled ws) (sym cut) (filled, h)), λ p. (subst (λ ws. Filled ws) cut (so_far.1 p)).1)

-- the last word is read
pub filled_all : (rest : List ℕ) (b : Bool) (P : Type 0) → split_on 32 rest ≡ rest ∷ [] → b ≡ (length rest == 0) → Filled (split_on 32 rest) ↔ P → IsTrue (not b) ↔ P
filled_all rest b P cut is so_far = elim (eqb_tells (length rest) 0) [
  | inl none ↦ rw (is, none.0) (λ h. absurd (let e : false ≡ true = h in cc), λ p. let h : Filled (rest ∷ []) = subst (λ ws. Filled ws) cut (so_far.1 p) in absurd (omega (arith, none.1, h.0)))
  | inr some ↦ rw (is, some.0) (λ h. so_far.0 (subst (λ ws. Filled ws) (sym cut) (omega (arith, some.1), tt)), λ p. refl)
]
