-- What is read before any CSV file.
use Rattle.std.specs.Prelude.{◌≡◌, ℕ, List, map, option_map}
use Rattle.command_line.specs.declared.query.Query.{Query}
use Rattle.command_line.specs.declared.query.Query.TheVariants.{File, Inline}
use Rattle.query_answers.specs.Runs.{Known, read_part}
use Rattle.query_kinds.specs.Listed.{IsListed}
use Rattle.schema.specs.declared.tables.Schema.{Schema}
use Rattle.table_commands.specs.Read.{AreNamed, IsKnownAs, IsReadSchema}
use Rattle.schema_words.specs.declared.check_line.TableCheck.{TableCheck}
use Rattle.schema_words.specs.declared.run_line.TableRun.{TableRun}

-- this was read of a query: at most one byte more than it may have
abbrev pub IsQueryText : Known → Query → (text : List ℕ) → Type 0
IsQueryText texts (File path) text = IsKnownAs (option_map read_part (texts path.now)) text
IsQueryText texts (Inline query) text = text ≡ read_part query.now

-- the query goes with the schema
abbrev pub GoesWith : (query : List ℕ) → Schema → Type 0
GoesWith query schema = (listing : List ℕ) × IsListed query schema listing

-- what a line names, as it was read: a schema, the files of its inputs, and a query that goes with the schema
pub record IsBegun (known : Known) (asked : TableRun) (schema : Schema) (paths : List (List ℕ)) (query : List ℕ) : Type 0 where
  pub read : IsReadSchema (known asked.schema.now) schema
  pub named : AreNamed schema.inputs.items (map (λ s. s.now) asked.files.items) paths
  pub text : IsQueryText known asked.query query
  pub goes : GoesWith query schema

-- what the fields of the query that a line names stand for, by its schema
pub record HasListed (known : Known) (asked : TableCheck) (listing : List ℕ) : Type 0 where
  pub schema : Schema
  pub query : List ℕ
  pub read : IsReadSchema (known asked.schema.now) schema
  pub text : IsQueryText known asked.query query
  pub listed : IsListed query schema listing
