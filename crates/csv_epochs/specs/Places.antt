-- Where in a record a byte comes, seen from the cell in one column.
use Rattle.std.specs.Prelude.{◌-◌, ◌++◌, ℕ, zero, suc, List, [], ◌∷◌, Option, Some, None}
use Rattle.csv_epochs.specs.declared.place.Place.{Place}
use Rattle.csv_epochs.specs.declared.place.Place.TheVariants.{Before, Inside, Behind}

-- the place where so many commas come before the cell
abbrev pub place_before : ℕ → Place
place_before zero = Inside
place_before (suc commas) = Before (suc commas)

-- the place after a comma
abbrev pub next_place : Place → Place
next_place (Before commas) = place_before (commas - 1)
next_place Inside = Behind
next_place Behind = Behind

-- the bytes of the cell, and one more of the cell where it comes
abbrev pub add_byte : Place → List ℕ → ℕ → List ℕ
add_byte (Before commas) cell b = cell
add_byte Inside cell b = cell ++ (b ∷ [])
add_byte Behind cell b = cell

-- the cell of a record that ends at a place; a record with too few cells has none
abbrev pub cell_at : Place → List ℕ → Option (List ℕ)
cell_at (Before commas) cell = None
cell_at Inside cell = Some cell
cell_at Behind cell = Some cell
