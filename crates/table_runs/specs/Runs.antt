-- What `run --schema` does.
use Rattle.std.specs.Prelude.{◌≡◌, ◌⊎◌, ℕ, List, Option, option_map}
use Rattle.std.specs.List.{list_any}
use Rattle.std.specs.Io.KnownBytes.{Appends}
use Rattle.query_answers.specs.Runs.{Known, read_part}
use Rattle.query_answers.specs.Runs.{IsRun}
use Rattle.schema.specs.declared.tables.Schema.{Schema}
use Rattle.schema.specs.declared.tables.Table.{Table}
use Rattle.table_commands.specs.Done.{BeginsWith}
use Rattle.table_commands.specs.Read.{IsInputOf, IsOutput}
use Rattle.table_commands.specs.Written.{IsWriteFault}
use Rattle.table_queries.specs.declared.fault.RunFault.{RunFault}
use Rattle.table_queries.specs.declared.fault.RunFault.TheVariants.{Tables, Run}
use Rattle.table_queries.specs.Begun.{HasListed}
pub use Rattle.table_queries.specs.Begun.{GoesWith, IsBegun, IsQueryText}
use Rattle.schema_words.specs.declared.check_line.TableCheck.{TableCheck}
use Rattle.schema_words.specs.declared.run_line.TableRun.{TableRun}
use Rattle.tables.specs.Answers.{IsDecoded}
use Rattle.tables.specs.Inputs.{AreNumbered, has_own}

-- the CSV file of the answer, at one output, of the query to the input text of the CSV files: by the old texts of a dictionary, with those of the
-- schema's constants and of the files added in this order
pub record IsAnswerBy (known : Known) (schema : Schema) (table : Table) (paths : List (List ℕ)) (query : List ℕ) (old : List (List ℕ)) (file : List ℕ) : Type 0 where
  pub texts : List (List ℕ)
  pub input : List ℕ
  pub answer : List ℕ
  pub numbered : AreNumbered schema.constants.items old texts
  pub encoded : IsInputOf known schema paths texts input
  pub run : IsRun (read_part query) input answer
  pub decoded : IsDecoded table (list_any (λ t. has_own t.epochs) schema.inputs.items) texts answer file

-- the same by the texts of the dictionary that is named, or by none
abbrev pub IsAnswerFile : Known → Schema → Table → (paths : List (List ℕ)) → (query : List ℕ) → (dictionary : Option (List ℕ)) → (file : List ℕ) → Type 0
IsAnswerFile known schema table paths query dictionary file =
    (old : List (List ℕ)) × BeginsWith known schema dictionary old × IsAnswerBy known schema table paths query old file

-- that file was written
abbrev pub WritesAnswer : Known → Schema → Table → (paths : List (List ℕ)) → (query : List ℕ) → (dictionary : Option (List ℕ)) → (old new : Option (List ℕ)) → Type 0
WritesAnswer known schema table paths query dictionary old new =
    (file : List ℕ) × IsAnswerFile known schema table paths query dictionary file × Appends old new file

-- the file was written of what the line names, at the output that it asks for
pub record IsDone (known : Known) (asked : TableRun) (old new : Option (List ℕ)) : Type 0 where
  pub schema : Schema
  pub table : Table
  pub paths : List (List ℕ)
  pub query : List ℕ
  pub begun : IsBegun known asked schema paths query
  pub output : IsOutput schema.outputs.items (option_map (λ s. s.now) asked.output) table
  pub written : WritesAnswer known schema table paths query (option_map (λ s. s.now) asked.dictionary) old new

-- nothing was written, or standard output or the dictionary's file failed
abbrev pub Fails : Option (List ℕ) → Option (List ℕ) → RunFault → Type 0
Fails old new (Tables fault) = IsWriteFault fault ⊎ (new ≡ old)
Fails old new (Run fault) = new ≡ old

-- what the fields of the query that a line names stand for was written
abbrev pub WritesFields : Known → TableCheck → Option (List ℕ) → Option (List ℕ) → Type 0
WritesFields known asked old new = (listing : List ℕ) × HasListed known asked listing × Appends old new listing
