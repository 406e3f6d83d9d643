-- Columns replaced by the scalars that they name, which are moved there.
use Rattle.std.specs.Prelude.{◌≡◌, ℕ, ◌≤◌, List, pos, slice_index_or}
use Rattle.std.specs.List.{AllByRecursion}
use Rattle.semantics.specs.Query.{Scalar}
use Rattle.semantics.specs.Normal.{NormalScalar, use_count}

-- the scalar that the column names; the literal 0 where there is none
abbrev pub named_by : List Scalar → ℕ → Scalar
named_by ss c = slice_index_or ss c (Scalar.literal (pos 0))

-- each column at most once
pub record Once (columns : List ℕ) : Type 0 where
  pub counts : (c : ℕ) → use_count c columns ≤ 1

-- scalars that the columns name were moved out: the others are there yet, and what is there is folded if it was
pub record MovesOut (columns : List ℕ) (left by : List Scalar) : Type 0 where
  pub others : (c : ℕ) → use_count c columns ≡ 0 → named_by left c ≡ named_by by c
  pub normal : AllByRecursion NormalScalar by → AllByRecursion NormalScalar left
