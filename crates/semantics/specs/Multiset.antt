-- Multisets of records: lists, compared by how often each record is in them.
use Rattle.std.specs.Prelude.{◌≡◌, ◌⊎◌, ℕ, zero, suc, ◌+◌, ◌≤◌, nat_lt, Bool, true, false, cond, List, [], ◌∷◌, ◌++◌, ℤ}
use Rattle.std.specs.Cmp.Lexicographic.{pointwise}
use Rattle.std.specs.Ordering.{int_eq}

-- the fields of a record, in order; a key is such a list too
abbrev pub Record : Type 0
Record = List ℤ

-- the records are equal
abbrev pub same : Record → Record → Bool
same a b = pointwise int_eq a b

-- 1 for true, 0 for false
abbrev pub one_if : Bool → ℕ
one_if true = 1
one_if false = 0

-- the sum of f over a list
abbrev pub total : {X : Type 0} → (X → ℕ) → List X → ℕ
total f [] = 0
total f (x ∷ xs) = f x + total f xs

-- how often r is in xs
abbrev pub count : Record → List Record → ℕ
count r xs = total (λ x. one_if (same x r)) xs

infix 30 ◌≈◌
-- xs and ys are the same multiset
pub record ◌≈◌ (xs ys : List Record) : Type 0 where
  pub counts : (r : Record) → count r xs ≡ count r ys

-- xs is part of ys
pub record IsPartOf (xs ys : List Record) : Type 0 where
  pub within : (r : Record) → count r xs ≤ count r ys

-- x is among the elements of a list
abbrev pub IsAmong : {X : Type 0} → X → List X → Type 0
IsAmong x [] = ⊥
IsAmong x (y ∷ ys) = (y ≡ x) ⊎ IsAmong x ys

-- r is in xs
abbrev pub is_present : Record → List Record → Bool
is_present r xs = nat_lt 0 (count r xs)

-- each record of the list, once
abbrev pub each_once : List Record → List Record
each_once [] = []
each_once (x ∷ xs) = cond (is_present x xs) (each_once xs) (x ∷ each_once xs)

-- the parts below n, end to end
abbrev pub end_to_end : (ℕ → List Record) → ℕ → List Record
end_to_end parts zero = []
end_to_end parts (suc n) = end_to_end parts n ++ parts n

-- xs with one y fewer
abbrev pub without : Record → List Record → List Record
without y [] = []
without y (x ∷ xs) = cond (same x y) xs (x ∷ without y xs)

-- xs without what is in ys
abbrev pub less : List Record → List Record → List Record
less xs [] = xs
less xs (y ∷ ys) = less (without y xs) ys
