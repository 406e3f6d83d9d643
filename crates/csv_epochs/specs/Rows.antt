-- A record that is read byte by byte.
use Rattle.std.specs.Prelude.{◌≡◌, ◌≤◌, ℕ, List, [], ◌∷◌, Option, Some, None, ⊤, length, take}
use Rattle.csv_strict.specs.declared.state.State.{State}
use Rattle.csv_epochs.specs.Cells.{Reading, after, reach, read}
use Rattle.csv_epochs.specs.Places.{cell_at}
use Rattle.csv_epochs.specs.declared.row.Row.{Row}
use Rattle.csv_epochs.specs.declared.row.RowStop.{RowStop}
use Rattle.csv_epochs.specs.declared.row.RowStop.TheVariants.{NoMemory, Refused}

-- what was read, if no record has ended
abbrev pub reading_of : Row → Reading
reading_of row = record { state = row.state; place = row.place; cell = row.cell.items; cells = [] }

-- the cell of a record that ends here
abbrev pub row_cell : Row → Option (List ℕ)
row_cell row = cell_at row.place row.cell.items

-- a byte leads to a state in the same record
pub record Moves (old new : Row) (b : ℕ) (next : State) : Type 0 where
  pub column : new.column ≡ old.column
  pub reading : reading_of new ≡ reach old.column (reading_of old) b next

-- the record is read to the end of the piece, or to its own end, after so many bytes
abbrev pub Reads : (old new : Row) (piece : List ℕ) → Option ℕ → Type 0
Reads old new piece None = (new.column ≡ old.column) × (read old.column (Some (reading_of old)) piece ≡ Some (reading_of new))
Reads old new piece (Some count) = (new.column ≡ old.column) × (count ≤ length piece) × (1 ≤ count)
    × (read old.column (Some (reading_of old)) (take count piece) ≡ Some (after old.column (row_cell new ∷ [])))

-- a byte of the piece may not come
abbrev pub IsStuckRow : Row → List ℕ → RowStop → Type 0
IsStuckRow row piece NoMemory = ⊤
IsStuckRow row piece Refused = read row.column (Some (reading_of row)) piece ≡ None
