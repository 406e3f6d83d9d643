-- Rows of numbers, and how they lie one after another.
use Rattle.std.specs.Prelude.{◌≡◌, ℕ, zero, suc, ℤ, List, [], ◌∷◌, ◌++◌, length, take, drop}
use Rattle.std.specs.List.{All}
use Rattle.semantics.specs.Multiset.{Record}

-- rows of `arity` numbers each, in order; there may be none
pub record RowList : Type 0 where
  pub arity : ℕ
  pub rows : List Record

-- the first k pieces of n numbers
abbrev pub cut : (n k : ℕ) → List ℤ → List Record
cut n zero xs = []
cut n (suc k) xs = take n xs ∷ cut n k (drop n xs)

-- each row has n numbers
abbrev pub AllHave : ℕ → List Record → Type 0
AllHave n rows = All (λ r. length r ≡ n) rows

-- how many numbers the first row has, 0 where there is no row
abbrev pub arity_of : List Record → ℕ
arity_of [] = 0
arity_of (r ∷ rows) = length r

-- the rows of lists of rows, end to end
abbrev pub joined : List (List Record) → List Record
joined [] = []
joined (rows ∷ more) = rows ++ joined more
