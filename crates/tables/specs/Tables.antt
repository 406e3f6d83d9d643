-- The lines of a table's records, epoch by epoch.
use Rattle.std.specs.Prelude.{◌≡◌, ◌≢◌, ◌⊎◌, ◌<ℤ◌, ℕ, ℤ, pos, List, [], ◌∷◌, ◌++◌, Option, Some, None, codes, get_or, if◌then◌else◌, option_map, ⊤}
use Rattle.std.specs.Ordering.{int_eq}
use Rattle.std.specs.Borrow.{Bor}
use Rattle.csv.specs.Machine.{next_record}
use Rattle.csv.specs.Reading.{AreRecords, Reached, Ready, default_config, reader_config, reader_state, reader_trim, source_of, strip_bom}
use Rattle.csv.specs.declared.parser.State.{State}
use Rattle.csv.specs.declared.parser.State.TheVariants as st
use Rattle.csv.specs.declared.reader.Reader.{Reader}
use Rattle.csv.specs.declared.reader.Trim.TheVariants as trim
use Rattle.csv_cells.specs.Cells.{IsRefusedRow, Spells}
use Rattle.csv_cells.specs.Encoded.{SpellsAll, line_text}
use Rattle.csv_cells.specs.Texts.{HasText}
use Rattle.csv_cells.specs.declared.column.Column.{Column}
use Rattle.csv_cells.specs.declared.row.RowFault.{RowFault}
use Rattle.csv_cells.specs.declared.row.RowFault.TheVariants as row
use Rattle.csv_strict.specs.Strict.{IsRefused, IsStrict}
use Rattle.csv_strict.specs.declared.checking.Fault as strict
use Rattle.schema.specs.declared.tables.Epochs.{Epochs}
use Rattle.schema.specs.declared.tables.Epochs.TheVariants.{One, By, Every}
use Rattle.csv_answers.specs.declared.refusal.Fault.{Fault}
use Rattle.csv_answers.specs.declared.refusal.Fault.TheVariants.{Text, Header, Length, Cell, Order, Dictionary, Answer}
use Rattle.tables.specs.declared.refusal.RecordFault.{RecordFault}
use Rattle.tables.specs.declared.refusal.RecordFault.TheVariants.{NoMemory, Stopped, Fault as InRecord}
use Rattle.csv_answers.specs.declared.refusal.TableRefusal.{TableRefusal}
use Rattle.csv_answers.specs.declared.refusal.TableRefusal.TheVariants as table
use Rattle.tables.specs.Dictionaries.{dictionary_rows}
use Rattle.tables.specs.declared.records.Target.{Target}

-- the value that says the epoch of a record, where the table has an epoch for each
abbrev pub epoch_of : Epochs → List ℤ → Option ℤ
epoch_of One zs = None
epoch_of Every zs = None
epoch_of (By place) zs = Some (get_or zs place (pos 0))

-- a record is late if its epoch's value is less than that of the record before
abbrev pub IsLate : (last now : Option ℤ) → Type 0
IsLate None None = ⊥
IsLate None (Some z) = ⊥
IsLate (Some y) None = ⊥
IsLate (Some y) (Some z) = z <ℤ y

-- no record is late, after one of that epoch
unfoldable pub AreInOrder : Epochs → (last : Option ℤ) → List (List ℤ) → Type 0
AreInOrder epochs last [] = ⊤
AreInOrder epochs last (zs ∷ rest) = (¬ IsLate last (epoch_of epochs zs)) × AreInOrder epochs (epoch_of epochs zs) rest

-- a line `epoch`, and the lines that are part of each epoch
abbrev pub begin_text : List ℕ → List ℕ
begin_text shared = codes "epoch" ++ 10 ∷ shared

-- a value begins an epoch, unless it is that of the record before
abbrev pub head_text : List ℕ → (last now : Option ℤ) → List ℕ
head_text shared None None = []
head_text shared (Some y) None = []
head_text shared None (Some z) = begin_text shared
head_text shared (Some y) (Some z) = if int_eq y z then [] else begin_text shared

-- the lines of records, after one of that epoch
unfoldable pub rows_text : Target → (last : Option ℤ) → List (List ℤ) → List ℕ
rows_text target last [] = []
rows_text target last (zs ∷ rest) =
    (head_text target.shared.now last (epoch_of target.epochs zs) ++ line_text target.name.now zs) ++ rows_text target (epoch_of target.epochs zs) rest

-- the text reads as a header row of these names, and these records
abbrev pub IsUnderHeader : (names : List (List ℕ)) → (text : List ℕ) → (rows : List (List (List ℕ))) → Type 0
IsUnderHeader names text rows = AreRecords default_config st.StartRecord (strip_bom text) (names ∷ rows)

-- the first record of a text has these cells
abbrev pub HasHeader : (names : List (List ℕ)) → (text : List ℕ) → Type 0
HasHeader names text = option_map (λ p. p.0) (next_record default_config st.StartRecord [] [] (strip_bom text)) ≡ Some names

-- a header row is refused only if it has other cells, or memory lacks, or its lines aren't taken
abbrev pub IsRefusedHeader : (names : List (List ℕ)) → (text : List ℕ) → RecordFault → Type 0
IsRefusedHeader names text (InRecord fault) = (fault ≡ Header) × ¬ HasHeader names text
IsRefusedHeader names text NoMemory = ⊤
IsRefusedHeader names text Stopped = ⊤

-- a reader of the text has read these records
pub record HasRead (text : List ℕ) (rows : List (List (List ℕ))) (reader : Reader (Bor (List ℕ))) : Type 0 where
  pub trim : reader_trim reader ≡ trim.None
  pub ready : Ready reader
  pub config : reader_config reader ≡ default_config
  pub rest : List ℕ
  pub source : source_of (λ (s : Bor (List ℕ)). Some s.now) reader ≡ Some rest
  pub reached : Reached default_config st.StartRecord (strip_bom text) rows (reader_state reader) rest

-- the lines are of the numbers of the records under the header row of the text
pub record AreEncoded (names : List (List ℕ)) (columns : List Column) (target : Target) (source : List ℕ) (texts : List (List ℕ)) (lines : List ℕ) : Type 0 where
  pub rows : List (List (List ℕ))
  pub numbers : List (List ℤ)
  pub read : IsUnderHeader names source rows
  pub spelled : SpellsAll columns texts rows numbers
  pub ordered : AreInOrder target.epochs None numbers
  pub written : lines ≡ rows_text target None numbers

-- the fault of a record that has no numbers
abbrev pub fault_of_row : RowFault → RecordFault
fault_of_row row.Length = InRecord Length
fault_of_row (row.Cell i) = InRecord (Cell i)
fault_of_row row.NoMemory = NoMemory

-- why a record has no lines, after those of these numbers, which come after one of that epoch: no numbers stand for its cells, or it is late
abbrev pub IsRecordFault : List Column → Epochs → (texts : List (List ℕ)) → (last : Option ℤ) → (before : List (List ℤ)) → (cells : List (List ℕ)) → Fault → Type 0
IsRecordFault columns epochs texts last before cells Length = IsRefusedRow columns texts cells row.Length
IsRecordFault columns epochs texts last before cells (Cell i) = IsRefusedRow columns texts cells (row.Cell i)
IsRecordFault columns epochs texts last before cells (Order i) =
    (epochs ≡ By i) × (numbers : List ℤ) × Spells columns texts cells numbers × ¬ AreInOrder epochs last (before ++ numbers ∷ [])
IsRecordFault columns epochs texts last before cells (Text fault) = ⊥
IsRecordFault columns epochs texts last before cells Header = ⊥
IsRecordFault columns epochs texts last before cells Dictionary = ⊥
IsRecordFault columns epochs texts last before cells Answer = ⊥

-- the text begins with these records
abbrev pub BeginsWith : (text : List ℕ) → (rows : List (List (List ℕ))) → Type 0
BeginsWith text rows = (state : State) × (rest : List ℕ) × Reached default_config st.StartRecord (strip_bom text) rows state rest

-- the records before it have lines, and this one has none
pub record IsFaultyRecord (names : List (List ℕ)) (columns : List Column) (epochs : Epochs) (source : List ℕ) (texts : List (List ℕ)) (fault : Fault) : Type 0 where
  pub rows : List (List (List ℕ))
  pub numbers : List (List ℤ)
  pub cells : List (List ℕ)
  pub read : BeginsWith source (names ∷ (rows ++ cells ∷ []))
  pub spelled : SpellsAll columns texts rows numbers
  pub ordered : AreInOrder epochs None numbers
  pub why : IsRecordFault columns epochs texts None numbers cells fault

-- why a text has no lines: by its header row, or by a record
abbrev pub AreRefused : (names : List (List ℕ)) → List Column → Epochs → (source : List ℕ) → (texts : List (List ℕ)) → RecordFault → Type 0
AreRefused names columns epochs source texts (InRecord fault) =
    ((fault ≡ Header) × ¬ HasHeader names source) ⊎ IsFaultyRecord names columns epochs source texts fault
AreRefused names columns epochs source texts NoMemory = ⊤
AreRefused names columns epochs source texts Stopped = ⊤

-- the text isn't strict
abbrev pub IsRefusedText : (text : List ℕ) → Fault → (line : ℕ) → Type 0
IsRefusedText text fault line = (why : strict.Fault) × (fault ≡ Text why) × IsRefused text (record { fault = why; line = line })

-- each record under the header row of a dictionary's file is one text, and these are the texts; an empty file has none
abbrev pub IsReadDictionary : (file : List ℕ) → (texts : List (List ℕ)) → Type 0
IsReadDictionary file texts = ((file ≡ []) × (texts ≡ [])) ⊎ AreRecords default_config st.StartRecord (strip_bom file) (dictionary_rows texts)

-- a record of a dictionary's file that isn't one text, or repeats one of those before it
pub record IsFaultyText (file : List ℕ) : Type 0 where
  pub texts : List (List ℕ)
  pub cells : List (List ℕ)
  pub read : BeginsWith file (dictionary_rows texts ++ cells ∷ [])
  pub faulty : (text : List ℕ) → cells ≡ text ∷ [] → HasText text texts

-- why a dictionary's file is refused: it isn't strict, has another header row, or such a record
abbrev pub IsRefusedDictionary : (file : List ℕ) → TableRefusal → Type 0
IsRefusedDictionary file (table.At fault line) = (file ≢ []) × (IsRefusedText file fault line
    ⊎ (IsStrict file × (((fault ≡ Header) × ¬ HasHeader (codes "text" ∷ []) file) ⊎ ((fault ≡ Dictionary) × IsFaultyText file))))
IsRefusedDictionary file table.NoMemory = ⊤
