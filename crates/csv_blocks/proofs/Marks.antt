-- A text with a byte order mark, and one without.
use Rattle.std.proofs.Common.{◌≡◌, ◌≢◌, ◌+◌, ◌<◌, ◌≤◌, ◌++◌, ℕ, List, [], ◌∷◌, Bool, true, false, length, refl, inl, inr, arith}
use Rattle.std.specs.Prelude.{◌&&◌, ◌==◌}
use Rattle.std.proofs.lemmas.Bool.{cases_Bool, eqb-true}
use Rattle.csv.specs.Reading.{is_bom, strip_bom}

-- a text after its mark, and one without
pub mark-gone : (file rest : List ℕ) → file ≡ 239 ∷ 187 ∷ 191 ∷ rest → rest ≡ strip_bom file
unfolding strip_bom
mark-gone file rest e = rw e refl

both : (x y : Bool) → (x && y) ≡ true → (x ≡ true) × (y ≡ true)
both true y e = (refl, e)
both false y e = cc e

pub no-mark : (file : List ℕ) → ((rest : List ℕ) → file ≢ 239 ∷ 187 ∷ 191 ∷ rest) → file ≡ strip_bom file
unfolding strip_bom
no-mark [] n = refl
no-mark (a ∷ []) n = refl
no-mark (a ∷ b ∷ []) n = refl
no-mark (a ∷ b ∷ c ∷ rest) n = elim (cases_Bool (is_bom a b c)) [
  | inl hit ↦
      let k = both ((a == 239) && (b == 187)) (c == 191) hit in
      let j = both (a == 239) (b == 187) k.0 in
      let x : a ≡ 239 = eqb-true a 239 j.0 in
      let y : b ≡ 187 = eqb-true b 187 j.1 in
      let z : c ≡ 191 = eqb-true c 191 k.1 in
      absurd (n rest (rw (x, y, z) refl))
  | inr other ↦ rw other refl
]

-- a text of fewer than three bytes has no mark
pub short-text : (text : List ℕ) → length text < 3 → strip_bom text ≡ text
unfolding strip_bom
short-text [] few = refl
short-text (a ∷ []) few = refl
short-text (a ∷ b ∷ []) few = refl
short-text (a ∷ b ∷ c ∷ rest) few = absurd (omega arith)

-- what comes behind the first three bytes
pub strip-behind : (text tail : List ℕ) → 3 ≤ length text → strip_bom (text ++ tail) ≡ strip_bom text ++ tail
unfolding strip_bom
strip-behind [] tail many = absurd (omega arith)
strip-behind (a ∷ []) tail many = absurd (omega arith)
strip-behind (a ∷ b ∷ []) tail many = absurd (omega arith)
strip-behind (a ∷ b ∷ c ∷ rest) tail many = elim (cases_Bool (is_bom a b c)) [
  | inl hit ↦ rw hit refl
  | inr other ↦ rw other refl
]

-- a mark has three bytes
pub strip-length : (text : List ℕ) → length text ≤ length (strip_bom text) + 3
unfolding strip_bom
strip-length [] = omega arith
strip-length (a ∷ []) = omega arith
strip-length (a ∷ b ∷ []) = omega arith
strip-length (a ∷ b ∷ c ∷ rest) = elim (cases_Bool (is_bom a b c)) [
  | inl hit ↦ rw hit (omega arith)
  | inr other ↦ rw other (omega arith)
]
