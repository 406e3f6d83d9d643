-- What the lines of a schema say, one by one.
use Rattle.std.specs.Prelude.{◌≡◌, ◌≢◌, ℕ, List, [], ◌∷◌, ◌++◌, codes, Option, Some, None, Result, Ok, Err, ⊤}
use Rattle.std.specs.Borrow.{Bor}
use Rattle.csv_cells.specs.Cells.{StandsAs}
use Rattle.csv_cells.specs.declared.column.Kind.{Kind}
use Rattle.csv_cells.specs.declared.column.Kind.TheVariants.{Text}
use Rattle.csv_cells.specs.declared.column.Empty.{Empty}
use Rattle.csv_cells.specs.declared.column.Empty.TheVariants.{Refused, Kept, Number}
use Rattle.csv_cells.specs.declared.column.Column.{Column}
use Rattle.schema_lines.specs.Words.{IsColumn, IsEmptyText, IsHeader, IsName, Lacks, kind_text}
use Rattle.schema_lines.specs.declared.lines.HeadEpochs.{HeadEpochs}
use Rattle.schema_lines.specs.declared.lines.HeadEpochs.TheVariants as head
use Rattle.schema_lines.specs.declared.lines.Line.{Line}
use Rattle.schema_lines.specs.declared.lines.Line.TheVariants as line
use Rattle.schema_lines.specs.declared.lines.LineError.{LineError}
use Rattle.schema_lines.specs.declared.lines.LineError.TheVariants as error

-- in which epochs an input's rows are, by the line that begins it
pub data Epoched : Type 0 where
  at_once : Epoched
  by_name : List ℕ → Epoched
  in_each : Epoched

-- what a line says
pub data Event : Type 0 where
  begins_input : List ℕ → Epoched → Event
  begins_output : List ℕ → Event
  has_column : List ℕ → Column → Event
  has_constant : List ℕ → List ℕ → Event

abbrev pub epoched : HeadEpochs → Epoched
epoched head.One = Epoched.at_once
epoched (head.By name) = Epoched.by_name name.now
epoched head.Every = Epoched.in_each

-- the column by which an input that begins has its epochs
abbrev pub begun_by : Epoched → Option (List ℕ)
begun_by Epoched.at_once = None
begun_by (Epoched.by_name name) = Some name
begun_by Epoched.in_each = None

abbrev pub event_of : Line → Event
event_of (line.Input name epochs) = Event.begins_input name.now (epoched epochs)
event_of (line.Output name) = Event.begins_output name.now
event_of (line.Column name column) = Event.has_column name.now column
event_of (line.Constant name text) = Event.has_constant name.now text.now

abbrev pub epoched_text : Epoched → List ℕ
epoched_text Epoched.at_once = []
epoched_text (Epoched.by_name name) = codes " by " ++ name
epoched_text Epoched.in_each = codes " every epoch"

-- a column's line after its two spaces
abbrev pub IsColumnWords : List ℕ → Column → List ℕ → Type 0
IsColumnWords name column text =
    (rest : List ℕ) × IsEmptyText column.empty column.kind rest × (text ≡ name ++ (codes " " ++ (kind_text column.kind ++ rest)))

-- the line, without its line feed
abbrev pub IsLine : Event → List ℕ → Type 0
IsLine (Event.begins_input name epochs) text = text ≡ codes "input " ++ (name ++ epoched_text epochs)
IsLine (Event.begins_output name) text = text ≡ codes "output " ++ name
IsLine (Event.has_column name column) text = (words : List ℕ) × IsColumnWords name column words × (text ≡ codes "  " ++ words)
IsLine (Event.has_constant name value) text = text ≡ codes "constant " ++ (name ++ (codes " = \"" ++ (value ++ codes "\"")))

abbrev pub IsEpoched : Epoched → Type 0
IsEpoched Epoched.at_once = ⊤
IsEpoched (Epoched.by_name name) = Lacks 10 name
IsEpoched Epoched.in_each = ⊤

-- a line of a right schema
abbrev pub IsProper : Event → Type 0
IsProper (Event.begins_input name epochs) = IsName name × IsEpoched epochs
IsProper (Event.begins_output name) = IsName name
IsProper (Event.has_column name column) = IsHeader name × IsColumn column
IsProper (Event.has_constant name value) = IsName name × Lacks 10 value

-- what is before and after the first place of a byte, or the last
abbrev pub IsAroundFirst : ℕ → List ℕ → List ℕ → List ℕ → Type 0
IsAroundFirst byte text before after = (text ≡ before ++ byte ∷ after) × Lacks byte before

abbrev pub IsAroundLast : ℕ → List ℕ → List ℕ → List ℕ → Type 0
IsAroundLast byte text before after = (text ≡ before ++ byte ∷ after) × Lacks byte after

-- this is read, unless memory is out
abbrev pub Gives : {A : Type 0} → A → Result A LineError → Type 0
Gives {A} wanted (Ok found) = found ≡ wanted
Gives {A} wanted (Err (error.Fault fault)) = ⊥
Gives {A} wanted (Err error.NoMemory) = ⊤

abbrev pub Reads : Event → Result Line LineError → Type 0
Reads event (Ok said) = event_of said ≡ event
Reads event (Err (error.Fault fault)) = ⊥
Reads event (Err error.NoMemory) = ⊤

-- the value after `or`
abbrev pub IsValue : Kind → Empty → List ℕ → Type 0
IsValue kind Refused value = ⊥
IsValue kind Kept value = (kind ≡ Text) × (value ≡ codes "\"\"")
IsValue kind (Number n) value = StandsAs (record { kind = kind; empty = Refused }) [] n value

abbrev pub MayBeValue : Kind → Empty → Option (Bor (List ℕ)) → Type 0
MayBeValue kind empty (Some value) = IsValue kind empty value.now
MayBeValue kind empty None = empty ≡ Refused

-- a part of a line
abbrev pub IsPart : List ℕ → List ℕ → Type 0
IsPart part text = (before : List ℕ) × (after : List ℕ) × (text ≡ before ++ (part ++ after))

-- what is known of what a line says, before names are looked at
abbrev pub IsSaid : List ℕ → Event → Type 0
IsSaid text (Event.begins_input name epochs) = ⊤
IsSaid text (Event.begins_output name) = ⊤
IsSaid text (Event.has_column name column) = IsPart name text × ((front : List ℕ) → name ≢ front ++ codes " or") × IsColumn column
IsSaid text (Event.has_constant name value) = IsPart value text

-- a column's name, the word for its kind, and the value after `or`
abbrev pub AreParts : List ℕ → Column → Option (Bor (List ℕ) × Bor (List ℕ) × Option (Bor (List ℕ))) → Type 0
AreParts name column None = ⊥
AreParts name column (Some parts) = (parts.0.now ≡ name) × (parts.1.now ≡ kind_text column.kind) × MayBeValue column.kind column.empty parts.2
