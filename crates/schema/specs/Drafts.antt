-- What was read of a schema so far.
use Rattle.std.specs.Prelude.{◌≡◌, ◌≢◌, ◌≤◌, Bool, true, false, ℕ, List, length, map, Option, Some, None, ⊤}
use Rattle.std.specs.List.{AllByRecursion}
use Rattle.schema_lines.specs.Words.{IsColumn, IsHeader, IsName}
use Rattle.schema.specs.Schemas.{AreConstants, AreDifferent, AreTables, Said, is_by, said, said_constant}
use Rattle.schema.specs.declared.tables.Epochs.TheVariants.{One}
use Rattle.schema.specs.declared.tables.Schema.{Schema}
use Rattle.schema.specs.declared.draft.Draft.{Draft}
use Rattle.schema.specs.declared.draft.Open.{Open}

-- the tables that have ended, and the constants, are right
pub record IsBegun (schema : Schema) : Type 0 where
  pub inputs : AreTables (map said schema.inputs.items)
  pub outputs : AreTables (map said schema.outputs.items)
  pub no_epochs : AllByRecursion (λ t. t.epochs ≡ One) (map said schema.outputs.items)
  pub constants : AreConstants (map said_constant schema.constants.items)

-- a table may have more columns
pub record IsOpenTable (table : Said) : Type 0 where
  pub named : IsName table.name
  pub few : length table.columns ≤ 16
  pub counted : length table.names ≡ length table.columns
  pub headers : AllByRecursion IsHeader table.names
  pub different : AreDifferent table.names
  pub columns : AllByRecursion IsColumn table.columns
  pub epochs : is_by table.epochs ≡ false

-- none of the names is this one
abbrev pub IsNew : List ℕ → List (List ℕ) → Type 0
IsNew name names = AllByRecursion (λ n. name ≢ n) names

-- the table may come to the inputs or to the outputs
abbrev pub MayAdd : Schema → Bool → Said → Type 0
MayAdd schema false table = IsNew table.name (map (λ t. t.name) (map said schema.inputs.items))
MayAdd schema true table = IsNew table.name (map (λ t. t.name) (map said schema.outputs.items)) × (table.epochs ≡ One)

abbrev pub IsOpenIn : Schema → Option Open → Type 0
IsOpenIn schema None = ⊤
IsOpenIn schema (Some opened) = IsOpenTable (said opened.table) × MayAdd schema opened.is_output (said opened.table)
    × (opened.is_output ≡ true → opened.by ≡ None)

abbrev pub IsDraft : Draft → Type 0
IsDraft draft = IsBegun draft.schema × IsOpenIn draft.schema draft.last
