-- The first piece, and the pieces after it.
use Rattle.std.proofs.Common.{◌≡◌, ◌≢◌, ◌<◌, ◌+◌, ◌∙◌, ℕ, zero, suc, List, [], ◌∷◌, length, take, drop, Bool, refl, ap, arith, get_or, cond}
use Rattle.std.proofs.lemmas.Bool.Decides.{eqb_tells}
use Rattle.std.proofs.Common.{inl, inr}
use Rattle.std.specs.List.{onto_first}
use Rattle.collector.specs.Pieces.{split_on}

pub step : (byte b : ℕ) (bs p : List ℕ) (ps : List (List ℕ)) → b ≢ byte → split_on byte bs ≡ p ∷ ps → split_on byte (b ∷ bs) ≡ (b ∷ p) ∷ ps
step byte b bs p ps other e = elim (eqb_tells b byte) [
  | inl same ↦ absurd (other same.1)
  | inr no_way ↦ ap (λ (t : Bool). cond t ([] ∷ split_on byte bs) (onto_first b (split_on byte bs))) no_way.0 ∙ ap (onto_first b) e
]

pub stop : (byte b : ℕ) (bs : List ℕ) → b ≡ byte → split_on byte (b ∷ bs) ≡ [] ∷ split_on byte bs
stop byte b bs same = elim (eqb_tells b byte) [
  | inl yes_way ↦ ap (λ (t : Bool). cond t ([] ∷ split_on byte bs) (onto_first b (split_on byte bs))) yes_way.0
  | inr other ↦ absurd (other.1 same)
]

pub split_none : (byte : ℕ) (bs : List ℕ) → ((k : ℕ) → k < length bs → get_or bs k 0 ≢ byte) → split_on byte bs ≡ bs ∷ []
split_none byte [] none = refl
split_none byte (b ∷ bs) none = step byte b bs bs [] (none 0 (omega arith)) (split_none byte bs (λ k lt. none (suc k) (omega arith)))

pub split_some : (byte : ℕ) (bs : List ℕ) (i : ℕ) → i < length bs → get_or bs i 0 ≡ byte → ((k : ℕ) → k < i → get_or bs k 0 ≢ byte) → split_on byte bs ≡ take i bs ∷ split_on byte (drop (suc i) bs)
split_some byte [] i lt at before = absurd (omega arith)
split_some byte (b ∷ bs) zero lt at before = stop byte b bs at
split_some byte (b ∷ bs) (suc i) lt at before = step byte b bs (take i bs) (split_on byte (drop (suc i) bs)) (before 0 (omega arith)) (split_some byte bs i (omega arith) at (λ k less. before (suc k) (omega arith)))

-- the piece up to the first place of the byte, and the rest after it
pub cut_at : (byte : ℕ) (bs piece after : List ℕ) (i : ℕ) → (i < length bs) × (get_or bs i 0 ≡ byte) × ((k : ℕ) → k < i → get_or bs k 0 ≢ byte) → piece ≡ take i bs → after ≡ drop (i + 1) bs → split_on byte bs ≡ piece ∷ split_on byte after
cut_at byte bs piece after i h e f =
    let next : i + 1 ≡ suc i = omega arith in
    rw (e, f, next) (split_some byte bs i h.0 h.1 h.2)
