-- The words of `check`, `run` and `follow` with the option `--schema`: the commands, and what the matches of the words hold.
use Rattle.std.specs.Prelude.{◌≡◌, ◌⊎◌, ◌++◌, ◌∷◌, List, [], Option, Some, None, codes, map, option_map}
use Rattle.clap.specs.Words.{App, Row, Rule, Text, all_of, first_of, one_of, subcommand_of, with_subcommand}
use Rattle.command_line.specs.Line.{AreAskedFor, IsAskedQuery, IsFlag, named_rule, query_rules, required_rule, taking, words_rule, workers_rule}
use Rattle.table_words.specs.Line.{top_app}
use Rattle.schema_words.specs.declared.check_line.TableCheck.{TableCheck}
use Rattle.schema_words.specs.declared.run_line.TableRun.{TableRun}

-- `--schema SCHEMA`, which has to be given
abbrev pub schema_rule : Rule
schema_rule = required_rule (codes "schema")

-- `check --schema SCHEMA QUERY`
abbrev pub check_app : App
check_app = taking (codes "check") (schema_rule ∷ query_rules)

-- `NAME --schema SCHEMA QUERY NAME=FILE ..`, with or without `--dictionary FILE`, `--output NAME` and `--workers N`
abbrev pub run_app : Text → App
run_app name =
    taking name
    (schema_rule ∷ named_rule (codes "dictionary") ∷ named_rule (codes "output") ∷ workers_rule ∷ query_rules ++ words_rule (codes "NAME=FILE") ∷ [])

abbrev pub check_line : App
check_line = with_subcommand top_app check_app.top

abbrev pub run_line : App
run_line = with_subcommand (with_subcommand top_app (run_app (codes "run")).top) (run_app (codes "follow")).top

-- what is asked for is what the matches of `check` hold
abbrev pub HoldsCheck : List Row → TableCheck → Type 0
HoldsCheck rows asked =
    (first_of (codes "schema") rows ≡ Some asked.schema.now) × IsAskedQuery rows asked.query × IsFlag (codes "explain") rows asked.explain

-- what is asked for is what the matches of `run` or `follow` hold
abbrev pub HoldsRun : List Row → TableRun → Type 0
HoldsRun rows asked =
    (first_of (codes "schema") rows ≡ Some asked.schema.now) × IsAskedQuery rows asked.query
    × (all_of (codes "NAME=FILE") rows ≡ Some (map (λ s. s.now) asked.files.items))
    × (option_map (λ s. s.now) asked.dictionary ≡ first_of (codes "dictionary") rows)
    × (option_map (λ s. s.now) asked.output ≡ first_of (codes "output") rows)
    × AreAskedFor (one_of (codes "workers") rows) asked.workers.count × IsFlag (codes "explain") rows asked.explain

abbrev pub HoldsCheckOf : Option (Text × List Row) → TableCheck → Type 0
HoldsCheckOf None asked = ⊥
HoldsCheckOf (Some found) asked = (found.0 ≡ codes "check") × HoldsCheck found.1 asked

abbrev pub HoldsRunOf : Option (Text × List Row) → TableRun → Type 0
HoldsRunOf None asked = ⊥
HoldsRunOf (Some found) asked = ((found.0 ≡ codes "run") ⊎ (found.0 ≡ codes "follow")) × HoldsRun found.1 asked

-- the words ask for this: it is what their matches hold
unfoldable pub AsksCheck : List Text → TableCheck → Type 0
AsksCheck words asked = HoldsCheckOf (subcommand_of check_line words) asked

unfoldable pub AsksRun : List Text → TableRun → Type 0
AsksRun words asked = HoldsRunOf (subcommand_of run_line words) asked
