-- The records of a text of CSV, byte by byte, and the cell of each in one column.
use Rattle.std.specs.Prelude.{◌++◌, ℕ, List, [], ◌∷◌, Option, Some, None, option_map}
use Rattle.csv_strict.specs.Strict.{next_state}
use Rattle.csv_strict.specs.declared.state.State.{State}
use Rattle.csv_strict.specs.declared.state.State.TheVariants.{Record, Field, Bare, Quoted, Quote, Return}
use Rattle.csv_epochs.specs.Places.{add_byte, cell_at, next_place, place_before}
use Rattle.csv_epochs.specs.declared.place.Place.{Place}

-- what was read: of the record that hasn't ended, where it is and the bytes of its cell so far; of those that have ended, their cells
pub record Reading : Type 0 where
  pub state : State
  pub place : Place
  pub cell : List ℕ
  pub cells : List (Option (List ℕ))

-- the beginning of a record, behind others with these cells
abbrev pub after : (column : ℕ) → List (Option (List ℕ)) → Reading
after column cells = record { state = Record; place = place_before column; cell = []; cells = cells }

-- the cell after a byte between quotes: the quote that opens it is none of its own, the second of two is
abbrev pub add_quoted : State → Place → List ℕ → ℕ → List ℕ
add_quoted Record place cell b = cell
add_quoted Field place cell b = cell
add_quoted Bare place cell b = cell
add_quoted Quoted place cell b = add_byte place cell b
add_quoted Quote place cell b = add_byte place cell b
add_quoted Return place cell b = cell

-- after a byte that leads to a state
abbrev pub reach : (column : ℕ) → Reading → ℕ → State → Reading
reach column r b Record = after column (r.cells ++ (cell_at r.place r.cell ∷ []))
reach column r b Field = record { state = Field; place = next_place r.place; cell = r.cell; cells = r.cells }
reach column r b Bare = record { state = Bare; place = r.place; cell = add_byte r.place r.cell b; cells = r.cells }
reach column r b Quoted = record { state = Quoted; place = r.place; cell = add_quoted r.state r.place r.cell b; cells = r.cells }
reach column r b Quote = record { state = Quote; place = r.place; cell = r.cell; cells = r.cells }
reach column r b Return = record { state = Return; place = r.place; cell = r.cell; cells = r.cells }

-- after these bytes, if each may come
unfoldable pub read : (column : ℕ) → Option Reading → List ℕ → Option Reading
read column None [] = None
read column None (b ∷ bs) = None
read column (Some r) [] = Some r
read column (Some r) (b ∷ bs) = read column (option_map (reach column r b) (next_state r.state b)) bs

-- after these bytes, from the beginning of a record
abbrev pub read_all : (column : ℕ) → List ℕ → Option Reading
read_all column bytes = read column (Some (after column [])) bytes

-- the cell of a record that no line's end ends, if there is one
abbrev pub last_cell : State → Option (List ℕ) → List (Option (List ℕ))
last_cell Record cell = []
last_cell Field cell = cell ∷ []
last_cell Bare cell = cell ∷ []
last_cell Quoted cell = cell ∷ []
last_cell Quote cell = cell ∷ []
last_cell Return cell = cell ∷ []

-- the cells of all records that were read
abbrev pub cells_of : Option Reading → List (Option (List ℕ))
cells_of None = []
cells_of (Some r) = r.cells ++ last_cell r.state (cell_at r.place r.cell)

-- the cells of the records of some bytes
abbrev pub cells : (column : ℕ) → List ℕ → List (Option (List ℕ))
cells column bytes = cells_of (read_all column bytes)
