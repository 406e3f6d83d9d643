-- What a right schema is.
use Rattle.std.specs.Prelude.{◌≡◌, ◌≢◌, ◌<◌, ◌≤◌, ◌+◌, Bool, true, false, ℕ, List, [], ◌∷◌, length, get_or, map, ◌⊎◌, ⊤}
use Rattle.std.specs.List.{AllByRecursion, count_by}
use Rattle.csv_cells.specs.Cells.{plain}
use Rattle.csv_cells.specs.declared.column.Kind.TheVariants.{Text}
use Rattle.csv_cells.specs.declared.column.Column.{Column}
pub use Rattle.schema_lines.specs.Words.{IsColumn, IsEmptyOf, IsHeader, IsKind, IsName, Lacks, begins_name, is_name_byte}
use Rattle.schema.specs.Text.{IsSchemaText, names_of}
use Rattle.schema.specs.declared.refusal.SchemaRefusal.{SchemaRefusal}
use Rattle.schema.specs.declared.refusal.SchemaRefusal.TheVariants.{At, NoMemory}
use Rattle.schema.specs.declared.tables.Epochs.{Epochs}
use Rattle.schema.specs.declared.tables.Epochs.TheVariants.{One, By, Every}
use Rattle.schema.specs.declared.tables.Table.{Table}
use Rattle.schema.specs.declared.tables.Constant.{Constant}
use Rattle.schema.specs.declared.tables.Schema.{Schema}

-- no two of them are alike
abbrev pub AreDifferent : List (List ℕ) → Type 0
AreDifferent [] = ⊤
AreDifferent (name ∷ names) = AllByRecursion (λ n. n ≢ name) names × AreDifferent names

-- the epochs are by one of the columns, whose values have an order
abbrev pub IsEpochsOf : List Column → Epochs → Type 0
IsEpochsOf columns One = ⊤
IsEpochsOf columns (By place) = (place < length columns) × ((get_or columns place plain).kind ≢ Text)
IsEpochsOf columns Every = ⊤

-- a table, however it is kept in memory
pub record Said : Type 0 where
  pub name : List ℕ
  pub epochs : Epochs
  pub names : List (List ℕ)
  pub columns : List Column

abbrev pub said : Table → Said
said table = record { name = table.name.items; epochs = table.epochs; names = names_of table; columns = table.columns.items }

-- a table has 1 to 16 columns, each with a name of its own
pub record IsTable (table : Said) : Type 0 where
  pub named : IsName table.name
  pub some : 1 ≤ length table.columns
  pub few : length table.columns ≤ 16
  pub counted : length table.names ≡ length table.columns
  pub headers : AllByRecursion IsHeader table.names
  pub different : AreDifferent table.names
  pub columns : AllByRecursion IsColumn table.columns
  pub epochs : IsEpochsOf table.columns table.epochs

-- inputs or outputs, each with a name of its own
abbrev pub AreTables : List Said → Type 0
AreTables tables = AllByRecursion IsTable tables × AreDifferent (map (λ t. t.name) tables)

abbrev pub is_by : Epochs → Bool
is_by One = false
is_by (By place) = true
is_by Every = false

abbrev pub is_every : Epochs → Bool
is_every One = false
is_every (By place) = false
is_every Every = true

-- all rows are in one epoch, or one input has an epoch for each value and the others are part of each
abbrev pub HaveEpochs : List Said → Type 0
HaveEpochs inputs = let by = count_by (λ t. is_by t.epochs) inputs in let every = count_by (λ t. is_every t.epochs) inputs in
    ((by ≡ 0) × (every ≡ 0)) ⊎ ((by ≡ 1) × (every + 1 ≡ length inputs))

-- a constant's name and its text
abbrev pub said_constant : Constant → List ℕ × List ℕ
said_constant constant = (constant.name.items, constant.text.items)

abbrev pub AreConstants : List (List ℕ × List ℕ) → Type 0
AreConstants constants = AllByRecursion (λ c. IsName c.0 × Lacks 10 c.1) constants
    × AreDifferent (map (λ c. c.0) constants) × AreDifferent (map (λ c. c.1) constants)

-- what a schema says, however it is kept in memory
pub record Parts : Type 0 where
  pub inputs : List Said
  pub outputs : List Said
  pub constants : List (List ℕ × List ℕ)

abbrev pub parts_of : Schema → Parts
parts_of schema =
    record { inputs = map said schema.inputs.items; outputs = map said schema.outputs.items; constants = map said_constant schema.constants.items }

-- a right schema
pub record IsSchema (schema : Schema) : Type 0 where
  pub inputs : AreTables (map said schema.inputs.items)
  pub epochs : HaveEpochs (map said schema.inputs.items)
  pub outputs : AreTables (map said schema.outputs.items)
  pub no_epochs : AllByRecursion (λ t. t.epochs ≡ One) (map said schema.outputs.items)
  pub constants : AreConstants (map said_constant schema.constants.items)

-- a text is refused for a line only if it is no right schema's
abbrev pub IsRefusal : List ℕ → SchemaRefusal → Type 0
IsRefusal text (At fault line) = (schema : Schema) → IsSchema schema → ¬ IsSchemaText schema text
IsRefusal text NoMemory = ⊤
