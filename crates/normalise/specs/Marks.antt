-- Which columns were met so far, as a list of marks: one for each column that a record may have.
use Rattle.std.specs.Prelude.{◌≡◌, ℕ, ◌+◌, ◌≤◌, ◌<◌, Bool, false, List, length, slice_index_or}
use Rattle.std.specs.List.{AllByRecursion}
use Rattle.semantics.specs.Multiset.{one_if}
use Rattle.semantics.specs.Normal.{use_count}

-- 1 where the column is marked
abbrev pub mark : List Bool → ℕ → ℕ
mark seen c = one_if (slice_index_or seen c false)

-- each of the columns is there once and was unmarked, and they are marked now
pub record Marks (columns : List ℕ) (after before : List Bool) : Type 0 where
  pub counts : (c : ℕ) → mark after c ≡ mark before c + use_count c columns

-- a column has no place among the marks, or is there twice, or was marked already
pub record Repeats (columns : List ℕ) (before : List Bool) : Type 0 where
  pub clash : AllByRecursion (λ c. c < length before) columns → ((c : ℕ) → mark before c + use_count c columns ≤ 1) → ⊥
