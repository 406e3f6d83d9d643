-- How a schema is read line by line: when a line may come, and what it adds.
use Rattle.std.specs.Prelude.{◌≡◌, ◌≢◌, ◌<◌, ◌≤◌, Bool, true, false, ℕ, List, []}
use Rattle.std.specs.Prelude.{◌∷◌, ◌++◌, get_or, length, map, Option, Some, None, Result, Ok, Err, ⊤}
use Rattle.std.specs.List.{AllByRecursion}
use Rattle.std.specs.Option.{option_map}
use Rattle.csv_cells.specs.declared.column.Column.{Column}
use Rattle.schema.specs.Drafts.{IsNew}
use Rattle.schema_lines.specs.Lines.{Epoched, Event, IsLine, IsProper, at_once, by_name}
use Rattle.schema_lines.specs.Lines.{in_each, begins_input, begins_output, has_column, has_constant}
use Rattle.schema_lines.specs.Words.{IsName}
pub use Rattle.schema_lines.specs.Words.{place_in}
pub use Rattle.schema_lines.specs.Lines.{begun_by}
use Rattle.schema.specs.Schemas.{IsEpochsOf, Parts, Said, parts_of, said, said_constant}
use Rattle.schema.specs.declared.draft.Draft.{Draft}
use Rattle.schema.specs.declared.draft.Open.{Open}
use Rattle.schema_lines.specs.declared.lines.LineError.{LineError}
use Rattle.schema_lines.specs.declared.lines.LineError.TheVariants as error
use Rattle.schema_lines.specs.declared.fault.Fault.{Fault}
use Rattle.schema.specs.declared.refusal.SchemaRefusal.{SchemaRefusal}
use Rattle.schema.specs.declared.refusal.SchemaRefusal.TheVariants as refusal
use Rattle.schema.specs.declared.tables.Epochs.{Epochs}
use Rattle.schema.specs.declared.tables.Epochs.TheVariants.{One, By, Every}
use Rattle.schema.specs.declared.tables.Schema.{Schema}
use Rattle.schema.specs.declared.tables.Table.{Table}

-- a table that may have more columns
pub record Opened : Type 0 where
  pub table : Said
  pub by : Option (List ℕ)
  pub output : Bool

abbrev pub opened_of : Open → Opened
opened_of opened = record { table = said opened.table; by = option_map (λ v. v.items) opened.by; output = opened.is_output }

-- what was read
pub record State : Type 0 where
  pub parts : Parts
  pub opened : Option Opened

abbrev pub state_of : Draft → State
state_of draft = record { parts = parts_of draft.schema; opened = option_map opened_of draft.last }

-- a table, when it ends
abbrev pub with_by : Option (List ℕ) → Said → Said
with_by None table = table
with_by (Some name) table = record { name = table.name; epochs = By (place_in name table.names); names = table.names; columns = table.columns }

abbrev pub MayEnd : Option (List ℕ) → Said → Type 0
MayEnd None table = 1 ≤ length table.columns
MayEnd (Some name) table = (1 ≤ length table.columns) × (place_in name table.names < length table.names)
    × IsEpochsOf table.columns (By (place_in name table.names))

abbrev pub put : Bool → Said → Parts → Parts
put false table parts = record { inputs = parts.inputs ++ table ∷ []; outputs = parts.outputs; constants = parts.constants }
put true table parts = record { inputs = parts.inputs; outputs = parts.outputs ++ table ∷ []; constants = parts.constants }

abbrev pub closed : Option Opened → Parts → Parts
closed None parts = parts
closed (Some opened) parts = put opened.output (with_by opened.by opened.table) parts

abbrev pub MayClose : Option Opened → Type 0
MayClose None = ⊤
MayClose (Some opened) = MayEnd opened.by opened.table

-- a table that begins
abbrev pub begun_epochs : Epoched → Epochs
begun_epochs at_once = One
begun_epochs (by_name name) = One
begun_epochs in_each = Every

abbrev pub begun : List ℕ → Epochs → Said
begun name epochs = record { name = name; epochs = epochs; names = []; columns = [] }

-- with one more column
abbrev pub grown : Said → List ℕ → Column → Said
grown table name column =
    record { name = table.name; epochs = table.epochs; names = table.names ++ name ∷ []; columns = table.columns ++ column ∷ [] }

abbrev pub MayGrow : Said → List ℕ → Type 0
MayGrow table name = (name ≢ []) × (length table.columns < 16) × IsNew name table.names

abbrev pub MayHaveColumn : Option Opened → List ℕ → Type 0
MayHaveColumn None name = ⊥
MayHaveColumn (Some opened) name = MayGrow opened.table name

abbrev pub wider : Option Opened → List ℕ → Column → Option Opened
wider None name column = None
wider (Some opened) name column = Some (record { table = grown opened.table name column; by = opened.by; output = opened.output })

-- the order of the lines, and the names that are in use
abbrev pub MayBeginInput : Parts → List ℕ → Type 0
MayBeginInput parts name = (parts.outputs ≡ []) × (parts.constants ≡ []) × IsName name × IsNew name (map (λ t. t.name) parts.inputs)

abbrev pub MayBeginOutput : Parts → List ℕ → Type 0
MayBeginOutput parts name = (parts.constants ≡ []) × IsName name × IsNew name (map (λ t. t.name) parts.outputs)

abbrev pub MayAddConstant : Parts → List ℕ → List ℕ → Type 0
MayAddConstant parts name text = IsName name × IsNew name (map (λ c. c.0) parts.constants) × IsNew text (map (λ c. c.1) parts.constants)

abbrev pub with_constant : Parts → List ℕ → List ℕ → Parts
with_constant parts name text = record { inputs = parts.inputs; outputs = parts.outputs; constants = parts.constants ++ (name, text) ∷ [] }

-- what a line needs, and what it makes of what was read
abbrev pub Allowed : State → Event → Type 0
Allowed state (begins_input name epochs) = MayClose state.opened × MayBeginInput (closed state.opened state.parts) name
Allowed state (begins_output name) = MayClose state.opened × MayBeginOutput (closed state.opened state.parts) name
Allowed state (has_column name column) = MayHaveColumn state.opened name
Allowed state (has_constant name text) = MayClose state.opened × MayAddConstant (closed state.opened state.parts) name text

abbrev pub after : State → Event → State
after state (begins_input name epochs) = record {
  parts = closed state.opened state.parts;
  opened = Some (record { table = begun name (begun_epochs epochs); by = begun_by epochs; output = false });
}
after state (begins_output name) =
    record { parts = closed state.opened state.parts; opened = Some (record { table = begun name One; by = None; output = true }) }
after state (has_column name column) = record { parts = state.parts; opened = wider state.opened name column }
after state (has_constant name text) = record { parts = with_constant (closed state.opened state.parts) name text; opened = None }

-- from here on these lines say the rest
unfoldable pub Runs : State → List Event → Parts → Type 0
Runs state [] parts = MayClose state.opened × (closed state.opened state.parts ≡ parts)
Runs state (event ∷ events) parts = Allowed state event × Runs (after state event) events parts

-- the text is these lines, each with its line feed
unfoldable pub AreLines : List Event → List ℕ → Type 0
AreLines [] text = text ≡ []
AreLines (event ∷ events) text = (line : List ℕ) × (rest : List ℕ) × IsLine event line × AreLines events rest × (text ≡ line ++ 10 ∷ rest)

-- the lines that are left say the rest
abbrev pub Leads : State → List ℕ → Parts → Type 0
Leads state text parts = (events : List Event) × AllByRecursion IsProper events × AreLines events text × Runs state events parts

-- the lines that say all of it
abbrev pub epoched_of : Epochs → List (List ℕ) → Epoched
epoched_of One names = at_once
epoched_of (By place) names = by_name (get_or names place [])
epoched_of Every names = in_each

abbrev pub input_event : Said → Event
input_event table = begins_input table.name (epoched_of table.epochs table.names)

abbrev pub output_event : Said → Event
output_event table = begins_output table.name

unfoldable pub column_events : List (List ℕ) → List Column → List Event
column_events [] columns = []
column_events (name ∷ names) [] = []
column_events (name ∷ names) (column ∷ columns) = has_column name column ∷ column_events names columns

unfoldable pub table_events : (Said → Event) → List Said → List Event
table_events head [] = []
table_events head (table ∷ tables) = head table ∷ (column_events table.names table.columns ++ table_events head tables)

unfoldable pub constant_events : List (List ℕ × List ℕ) → List Event
constant_events [] = []
constant_events (c ∷ cs) = has_constant c.0 c.1 ∷ constant_events cs

abbrev pub events_of : Parts → List Event
events_of parts = table_events input_event parts.inputs ++ (table_events output_event parts.outputs ++ constant_events parts.constants)

-- what a call makes of it is this, unless memory is out
abbrev pub MakesEnded : Said → Result Table Fault → Type 0
MakesEnded wanted (Ok table) = said table ≡ wanted
MakesEnded wanted (Err fault) = ⊥

abbrev pub MakesTable : Said → Result Table LineError → Type 0
MakesTable wanted (Ok table) = said table ≡ wanted
MakesTable wanted (Err (error.Fault fault)) = ⊥
MakesTable wanted (Err error.NoMemory) = ⊤

abbrev pub MakesState : State → Result Draft LineError → Type 0
MakesState wanted (Ok draft) = state_of draft ≡ wanted
MakesState wanted (Err (error.Fault fault)) = ⊥
MakesState wanted (Err error.NoMemory) = ⊤

abbrev pub MakesDraft : State → Result Draft SchemaRefusal → Type 0
MakesDraft wanted (Ok draft) = state_of draft ≡ wanted
MakesDraft wanted (Err (refusal.At fault line)) = ⊥
MakesDraft wanted (Err refusal.NoMemory) = ⊤

abbrev pub MakesParts : Parts → Result Schema SchemaRefusal → Type 0
MakesParts wanted (Ok schema) = parts_of schema ≡ wanted
MakesParts wanted (Err (refusal.At fault line)) = ⊥
MakesParts wanted (Err refusal.NoMemory) = ⊤

abbrev pub MakesLines : Parts → Result (Schema × ℕ) SchemaRefusal → Type 0
MakesLines wanted (Ok read) = parts_of read.0 ≡ wanted
MakesLines wanted (Err (refusal.At fault line)) = ⊥
MakesLines wanted (Err refusal.NoMemory) = ⊤
