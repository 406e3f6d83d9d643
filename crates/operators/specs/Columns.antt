-- Columns that scalars determine.
use Rattle.std.specs.Prelude.{◌≡◌, ℕ, ◌<◌, List, [], ◌∷◌, length, ◌⊎◌}
use Rattle.expr_tree.specs.declared.scalar.Operator.{Operator}
use Rattle.expr_tree.specs.Plain.{plain_operator}
use Rattle.semantics.specs.Multiset.{Record}
use Rattle.semantics.specs.Query.{Scalar}
use Rattle.semantics.specs.Meaning.{field, value}

-- records with the same value of the scalar have the same value of the column
abbrev pub Determines : ℕ → Scalar → Type 0
Determines c s = (r q : Record) → value s r ≡ value s q → value (Scalar.column c) r ≡ value (Scalar.column c) q

-- one of the scalars determines the column
abbrev pub IsDetermined : ℕ → List Scalar → Type 0
IsDetermined c [] = ⊥
IsDetermined c (s ∷ ss) = Determines c s ⊎ IsDetermined c ss

-- each column below n is determined by one of the scalars
abbrev pub AllDetermined : ℕ → List Scalar → Type 0
AllDetermined n ss = (c : ℕ) → c < n → IsDetermined c ss

-- between t and another scalar, on either side, the operator determines what the other scalar does
abbrev pub IsInvertible : Operator → Scalar → Type 0
IsInvertible o t = (c : ℕ) (s : Scalar) → Determines c s → Determines c (plain_operator o s t) × Determines c (plain_operator o t s)

-- each field is in the range of 64 bits, so a column's value is the field
abbrev pub IsInRange : Record → Type 0
IsInRange r = (c : ℕ) → c < length r → value (Scalar.column c) r ≡ field c r
