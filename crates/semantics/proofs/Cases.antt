-- Cases of numbers and of truth values, and the places of a list.
use Rattle.std.proofs.Common.{◌≡◌, ◌⊎◌, ℕ, zero, suc, ◌+◌, ◌<◌, Bool, true, List, [], ◌∷◌, length, Some, slice_get, IsTrue, refl, arith}

-- a number below n + 1 is below n, or is n
pub below_or_last : (a n : ℕ) → a < n + 1 → (a < n) ⊎ (a ≡ n)
below_or_last a n l = grind arith

-- of a sum above 0, a part is above 0
pub either_above_zero : (a b : ℕ) → 0 < a + b → (0 < a) ⊎ (0 < b)
either_above_zero a b l = grind arith

pub is_true : (b : Bool) → b ≡ true → IsTrue b
is_true b e = grind arith

pub true_is : (b : Bool) → IsTrue b → b ≡ true
true_is b t = grind arith

-- a place within a list has an item
pub item_there : {X : Type 0} (xs : List X) (i : ℕ) → i < length xs → (x : X) × (slice_get xs i ≡ Some x)
item_there [] i l = absurd (omega arith)
item_there (x ∷ xs) zero l = (x, refl)
item_there (x ∷ xs) (suc i) l = item_there xs i (omega arith)
