-- What is done with the records of a part of a text.
use Rattle.std.specs.Prelude.{◌≡◌, ℕ, ℤ, List, [], ◌∷◌, ◌++◌, Option, None, ⊤}
use Rattle.std.specs.Borrow.{Bor}
use Rattle.csv.specs.Reading.{AreRecords, default_config}
use Rattle.csv.specs.declared.parser.State.TheVariants as st
use Rattle.csv.specs.declared.reader.Reader.{Reader}
use Rattle.csv_cells.specs.Encoded.{SpellsAll}
use Rattle.csv_cells.specs.declared.column.Column.{Column}
use Rattle.schema.specs.Text.{names_of}
use Rattle.schema.specs.declared.tables.Epochs.{Epochs}
use Rattle.schema.specs.declared.tables.Table.{Table}
use Rattle.csv_answers.specs.declared.refusal.Fault.{Fault}
use Rattle.tables.specs.Tables.{AreInOrder, BeginsWith, HasRead, IsRecordFault, epoch_of, rows_text}
use Rattle.tables.specs.declared.refusal.RecordFault.{RecordFault}
use Rattle.tables.specs.declared.refusal.RecordFault.TheVariants.{NoMemory, Stopped, Fault as InRecord}
use Rattle.tables.specs.declared.file.Progress.{Progress}
use Rattle.tables.specs.declared.file.Progress.TheVariants.{Header, Records}
use Rattle.tables.specs.declared.records.Target.{Target}

-- the epoch of the last record, after one of that epoch
unfoldable pub last_epoch : Target → Option ℤ → List (List ℤ) → Option ℤ
last_epoch target last [] = last
last_epoch target last (zs ∷ rest) = last_epoch target (epoch_of target.epochs zs) rest

-- the lines of these records, which come after one of an epoch, and the epoch of the last
pub record AreAppended (columns : List Column) (target : Target) (texts : List (List ℕ)) (last latest : Option ℤ) (rows : List (List (List ℕ))) (lines : List ℕ) : Type 0 where
  pub numbers : List (List ℤ)
  pub spelled : SpellsAll columns texts rows numbers
  pub ordered : AreInOrder target.epochs last numbers
  pub written : lines ≡ rows_text target last numbers
  pub is_last : latest ≡ last_epoch target last numbers

-- the records before it, which come after one of an epoch, have lines, and this one has none
pub record HasStopped (columns : List Column) (epochs : Epochs) (texts : List (List ℕ)) (last : Option ℤ) (fault : Fault) : Type 0 where
  pub rows : List (List (List ℕ))
  pub numbers : List (List ℤ)
  pub cells : List (List ℕ)
  pub spelled : SpellsAll columns texts rows numbers
  pub ordered : AreInOrder epochs last numbers
  pub why : IsRecordFault columns epochs texts last numbers cells fault

-- the text that a reader has begun to read goes on with these records
abbrev pub ReadsOn : Reader (Bor (List ℕ)) → (rows : List (List (List ℕ))) → Type 0
ReadsOn reader rows = (text : List ℕ) (before : List (List (List ℕ))) → HasRead text before reader → BeginsWith text (before ++ rows)

-- why records have no lines: by one of those that are read
abbrev pub Stops : List Column → Epochs → (texts : List (List ℕ)) → (last : Option ℤ) → (reads : List (List (List ℕ)) → Type 0) → RecordFault → Type 0
Stops columns epochs texts last reads (InRecord fault) = (s : HasStopped columns epochs texts last fault) × reads (s.rows ++ s.cells ∷ [])
Stops columns epochs texts last reads NoMemory = ⊤
Stops columns epochs texts last reads Stopped = ⊤

-- the fault says nothing of the record
abbrev pub NeedsNoReason : RecordFault → Type 0
NeedsNoReason (InRecord fault) = ⊥
NeedsNoReason NoMemory = ⊤
NeedsNoReason Stopped = ⊤

-- all records of a text without a mark have gone into these lines: none yet, or those under the header row
abbrev pub HaveGone : Table → Target → (texts : List (List ℕ)) → Progress → (text lines : List ℕ) → Type 0
HaveGone table target texts Header text lines = (text ≡ []) × (lines ≡ [])
HaveGone table target texts (Records last) text lines =
    (rows : List (List (List ℕ))) × AreRecords default_config st.StartRecord text (names_of table ∷ rows) × AreAppended table.columns.items target texts None last rows lines

-- where a table's records go
pub record IsTarget (table : Table) (shared : List ℕ) (target : Target) : Type 0 where
  pub epochs : target.epochs ≡ table.epochs
  pub named : target.name.now ≡ table.name.items
  pub joined : target.shared.now ≡ shared
