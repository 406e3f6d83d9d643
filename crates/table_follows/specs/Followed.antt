-- What `follow --schema` does.
use Rattle.std.specs.Prelude.{◌≡◌, ◌⊎◌, ℕ, zero, suc, false, List, [], ◌∷◌, Option, Some, get_or, option_map, slice_get}
use Rattle.std.specs.List.{list_any}
use Rattle.table_commands.specs.Done.{BeginsWith}
use Rattle.query_answers.specs.Runs.{Known}
use Rattle.csv_cells.specs.Cells.{plain}
use Rattle.csv_cells.specs.declared.column.Column.{Column}
use Rattle.schema.specs.declared.tables.Epochs.TheVariants.{By}
use Rattle.schema.specs.declared.tables.Schema.{Schema}
use Rattle.schema.specs.declared.tables.Table.{Table}
use Rattle.table_commands.specs.Read.{IsOutput}
use Rattle.table_epochs.specs.Followed.{FailsText, Followed, FollowsText, Reached}
use Rattle.table_files.specs.Read.{AreTexts, IsKnownAs}
use Rattle.table_queries.specs.Begun.{IsBegun}
use Rattle.table_queries.specs.declared.fault.RunFault.{RunFault}
use Rattle.table_runs.specs.Runs.{Fails, WritesAnswer}
use Rattle.schema_words.specs.declared.run_line.TableRun.{TableRun}
use Rattle.tables.specs.Inputs.{AreNumbered, has_own}

-- these are the texts of the files of these names, but for the one at that place
unfoldable pub AreOthers : Known → (place : ℕ) → (names files : List (List ℕ)) → Type 0
AreOthers known place [] files = files ≡ []
AreOthers known place (name ∷ names) [] = ⊥
AreOthers known zero (name ∷ names) (file ∷ files) = AreTexts known names files
AreOthers known (suc place) (name ∷ names) (file ∷ files) = IsKnownAs (known name) file × AreOthers known place names files

-- the table at that place has an epoch for each value of that column
pub record IsStream (tables : List Table) (place column : ℕ) (cells : Column) : Type 0 where
  pub table : Table
  pub there : slice_get tables place ≡ Some table
  pub by : table.epochs ≡ By column
  pub kind : cells ≡ get_or table.columns.items column plain

-- this is followed, by a schema and the files of its inputs
pub record IsFollowed (known : Known) (schema : Schema) (table : Table) (paths : List (List ℕ)) (query : List ℕ) (f : Followed) : Type 0 where
  pub same_schema : f.schema ≡ schema
  pub same_table : f.table ≡ table
  pub same_query : f.query ≡ query
  pub stream : IsStream schema.inputs.items f.place f.column f.cells
  pub files : AreOthers known f.place paths f.files

-- a text was followed to its end: by these texts of a dictionary, with those of the schema's constants added in this order, and then others
abbrev pub FollowsFrom : (known : Option (List ℕ)) → Followed → (begin : List (List ℕ)) → (old new : Option (List ℕ)) → Type 0
FollowsFrom known f begin old new = (start : Reached) × AreNumbered f.schema.constants.items begin start.texts × FollowsText known f start old new

-- the file that arrives was followed to its end, by the texts of the dictionary that is named, or by none
abbrev pub FollowsFile : Known → Schema → Table → (paths : List (List ℕ)) → (query : List ℕ) → (dictionary : Option (List ℕ))
    → (old new : Option (List ℕ)) → Type 0
FollowsFile known schema table paths query dictionary old new =
    (begin : List (List ℕ)) × BeginsWith known schema dictionary begin
    × (f : Followed) × IsFollowed known schema table paths query f × FollowsFrom (known (get_or paths f.place [])) f begin old new

-- nothing was written, or a beginning of it was followed
abbrev pub FailsFile : Known → Schema → Table → (paths : List (List ℕ)) → (query : List ℕ) → (old new : Option (List ℕ)) → RunFault → Type 0
FailsFile known schema table paths query old new fault = (new ≡ old)
    ⊎ ((f : Followed) × IsFollowed known schema table paths query f × FailsText (known (get_or paths f.place [])) f old new fault)

-- none of the tables has an epoch for each value of a column
abbrev pub HasNoneIn : List Table → Type 0
HasNoneIn tables = list_any (λ t. has_own t.epochs) tables ≡ false

-- the file of the line's answer was written, epoch by epoch where an input has epochs of its own
pub record HasFollowed (known : Known) (asked : TableRun) (old new : Option (List ℕ)) : Type 0 where
  pub schema : Schema
  pub table : Table
  pub paths : List (List ℕ)
  pub query : List ℕ
  pub begun : IsBegun known asked schema paths query
  pub output : IsOutput schema.outputs.items (option_map (λ s. s.now) asked.output) table
  pub written : FollowsFile known schema table paths query (option_map (λ s. s.now) asked.dictionary) old new ⊎
      (HasNoneIn schema.inputs.items × WritesAnswer known schema table paths query (option_map (λ s. s.now) asked.dictionary) old new)

-- at a fault after the line's query was read
pub record HasFailed (known : Known) (asked : TableRun) (fault : RunFault) (old new : Option (List ℕ)) : Type 0 where
  pub schema : Schema
  pub table : Table
  pub paths : List (List ℕ)
  pub query : List ℕ
  pub begun : IsBegun known asked schema paths query
  pub output : IsOutput schema.outputs.items (option_map (λ s. s.now) asked.output) table
  pub written : FailsFile known schema table paths query old new fault ⊎ (HasNoneIn schema.inputs.items × Fails old new fault)

-- nothing was written, or what was is as `HasFailed` says
abbrev pub FailsSo : Known → TableRun → (old new : Option (List ℕ)) → RunFault → Type 0
FailsSo known asked old new fault = (new ≡ old) ⊎ HasFailed known asked fault old new
