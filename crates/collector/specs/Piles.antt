-- Records in batches.
use Rattle.std.specs.Prelude.{◌≡◌, ℕ, ℤ, List, [], ◌∷◌, ◌++◌, length, map, slice_index_or}
use Rattle.semantics.specs.Multiset.{◌≈◌}
use Rattle.rows.specs.FlatRows.{RowList, joined}

-- these records are added to the last epoch
abbrev pub with_open : List (List (List ℤ)) → List (List ℤ) → List (List (List ℤ))
with_open [] rows = []
with_open (records ∷ []) rows = (records ++ rows) ∷ []
with_open (records ∷ next ∷ epochs) rows = records ∷ with_open (next ∷ epochs) rows

-- the rows of lists of rows, one list after another
abbrev pub piled : List RowList → List (List ℤ)
piled lists = joined (map (λ (r : RowList). r.rows) lists)

-- the lists are as many, and at each place they have the same records in some order
pub record AreAlike (xs ys : List (List (List ℤ))) : Type 0 where
  pub size : length xs ≡ length ys
  pub each : (k : ℕ) → slice_index_or xs k [] ≈ slice_index_or ys k []
