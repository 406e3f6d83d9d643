-- What is held between two pieces of a text.
use Rattle.std.specs.Prelude.{◌≡◌, ◌<◌, ◌+◌, ◌++◌, ◌⊎◌, ℕ, Bool, true, false, List, [], ◌∷◌, Option, Some, None, ⊤, length, option_map}
use Rattle.csv.specs.Reading.{strip_bom}
use Rattle.csv_strict.specs.Strict.{run}
use Rattle.csv_strict.specs.declared.state.State.TheVariants.{Record}
use Rattle.csv_epochs.specs.Cells.{after, cells, read_all}
use Rattle.csv_epochs.specs.Rows.{reading_of, row_cell}
use Rattle.csv_epochs.specs.Epochs.{AreOne, EndsRecord, Held, IsHeader, KeepsHeader, lines, plus}
use Rattle.csv_epochs.specs.declared.epoch.Epoch.{Epoch}
use Rattle.csv_epochs.specs.declared.open.Open.{Open}
use Rattle.csv_epochs.specs.declared.row.RowStop.{RowStop}
use Rattle.csv_epochs.specs.declared.row.RowStop.TheVariants.{NoMemory, Refused}

-- the bytes behind the header row
abbrev pub bytes_in : Open → List ℕ
bytes_in o = o.body.items ++ o.tail.items

-- all that is held
abbrev pub text_in : Open → List ℕ
text_in o = o.header.items ++ bytes_in o

abbrev pub held_of : Open → Bool → Held
held_of o failed = record { column = o.row.column; has_header = o.has_header; header = o.header.items; bytes = bytes_in o; before = o.lines; failed = failed }

-- the cell of the open epoch
abbrev pub cell_in : Open → Option (List ℕ)
cell_in o = option_map (λ v. v.items) o.cell

-- there are no records, or they are whole and of one epoch
abbrev pub AreWhole : (column : ℕ) → Option (List ℕ) → List ℕ → Type 0
AreWhole column cell body = (body ≡ []) ⊎ (EndsRecord body × AreOne cell (cells column body))

-- in the header row
pub record IsBegun (o : Open) : Type 0 where
  pub stage : o.has_header ≡ false
  pub body : o.body.items ≡ []
  pub tail : o.tail.items ≡ []
  pub row : read_all o.row.column (strip_bom o.header.items) ≡ Some (reading_of o.row)

-- behind it, in a record
pub record IsAmid (o : Open) : Type 0 where
  pub stage : o.has_header ≡ true
  pub head : IsHeader o.row.column o.header.items
  pub whole : AreWhole o.row.column (cell_in o) o.body.items
  pub row : read_all o.row.column o.tail.items ≡ Some (reading_of o.row)

-- the same at the end of a record
pub record IsEnded (o : Open) : Type 0 where
  pub stage : o.has_header ≡ true
  pub head : IsHeader o.row.column o.header.items
  pub whole : AreWhole o.row.column (cell_in o) o.body.items
  pub ends : EndsRecord o.tail.items
  pub row : cells o.row.column o.tail.items ≡ row_cell o.row ∷ []

-- what holds between two calls
abbrev pub IsKept : Open → Type 0
IsKept o = IsBegun o ⊎ IsAmid o

-- the header row is whole, or there is nothing behind it
abbrev pub HasHeader : Open → Type 0
HasHeader o = IsHeader o.row.column o.header.items ⊎ (bytes_in o ≡ [])

-- what holds after bytes were taken
abbrev pub IsAfter : (ended : Bool) → Open → Type 0
IsAfter true o = IsEnded o
IsAfter false o = IsKept o

-- some bytes of the piece were taken
pub record Advances (old new : Open) (piece rest : List ℕ) : Type 0 where
  pub header : KeepsHeader (held_of old false) (held_of new false)
  pub all : text_in old ++ piece ≡ text_in new ++ rest
  pub shorter : length rest < length piece
  pub column : new.row.column ≡ old.row.column
  pub lines : new.lines ≡ old.lines

-- the text can't go on with this piece
abbrev pub IsStuckAt : (old new : Open) (piece : List ℕ) → RowStop → Type 0
IsStuckAt old new piece NoMemory = ⊤
IsStuckAt old new piece Refused = (text_in new ≡ text_in old) × (new.lines ≡ old.lines) × (run (Some Record) (strip_bom (text_in old ++ piece)) ≡ None)

-- a record with the cell is of the same epoch
abbrev pub IsSame : Option (List ℕ) → Option (List ℕ) → Type 0
IsSame None cell = ⊥
IsSame (Some cell) None = ⊥
IsSame (Some cell) (Some other) = cell ≡ other

-- the row is put to the records; the first one brings the epoch's cell
pub record KeepsRow (old new : Open) : Type 0 where
  pub header : new.header ≡ old.header
  pub stage : new.has_header ≡ old.has_header
  pub lines : new.lines ≡ old.lines
  pub column : new.row.column ≡ old.row.column
  pub body : new.body.items ≡ old.body.items ++ old.tail.items
  pub tail : new.tail.items ≡ []
  pub row : reading_of new.row ≡ after old.row.column []
  pub first : old.body.items ≡ [] → cell_in new ≡ row_cell old.row
  pub later : 0 < length old.body.items → cell_in new ≡ cell_in old

-- the records are handed out
pub record HandsBody (old new : Open) (epoch : Epoch) : Type 0 where
  pub header : new.header ≡ old.header
  pub stage : new.has_header ≡ old.has_header
  pub tail : new.tail ≡ old.tail
  pub row : new.row ≡ old.row
  pub body : new.body.items ≡ []
  pub text : epoch.text.items ≡ old.header.items ++ old.body.items
  pub cell : option_map (λ v. v.items) epoch.cell ≡ cell_in old
  pub header_lines : epoch.header_lines ≡ lines old.header.items
  pub first_line : epoch.first_line ≡ plus old.lines (lines old.header.items + 1)
  pub lines : new.lines ≡ plus old.lines (lines old.body.items)

-- the end of a row: the epoch goes on with it, or is handed out and begins anew with it
abbrev pub EndsRow : (old new : Open) → Option Epoch → Type 0
EndsRow old new None = KeepsRow old new × ((old.body.items ≡ []) ⊎ IsSame (cell_in old) (row_cell old.row))
EndsRow old new (Some epoch) = (amid : Open) × HandsBody old amid epoch × KeepsRow amid new × (0 < length old.body.items) × (IsSame (cell_in old) (row_cell old.row) → ⊥)

-- the end of a record that no line feed ends, if there is one
abbrev pub EndsTail : (old new : Open) → Option Epoch → Type 0
EndsTail old new epoch = ((old.tail.items ≡ []) × (new ≡ old) × (epoch ≡ None)) ⊎ ((0 < length old.tail.items) × EndsRow old new epoch)

-- the end of the open epoch, if there is one
abbrev pub EndsBody : (old new : Open) → Option Epoch → Type 0
EndsBody old new None = (old.body.items ≡ []) × (new ≡ old)
EndsBody old new (Some epoch) = (0 < length old.body.items) × HandsBody old new epoch

-- these epochs
abbrev pub listed : (first last : Option Epoch) → List Epoch
listed None None = []
listed None (Some last) = last ∷ []
listed (Some first) None = first ∷ []
listed (Some first) (Some last) = first ∷ last ∷ []
