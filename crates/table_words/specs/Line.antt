-- The words of `encode`, `decode` and `kinds`: the commands, and what the matches of the words hold.
use Rattle.std.specs.Prelude.{◌≡◌, ◌∷◌, List, [], Option, Some, None, true, codes, map, option_map}
use Rattle.clap.specs.Words.{App, Row, Text, all_of, first_of, new_app, subcommand_of, with_subcommand}
use Rattle.command_line.specs.Line.{IsFlag, flag_rule, named_rule, optional_rule, taking, word_rule, words_rule}
use Rattle.table_words.specs.declared.line.Asked.{Asked}
use Rattle.table_words.specs.declared.line.Asked.TheVariants.{Encode, Decode, Kinds}

-- `encode SCHEMA NAME=FILE ..`, with or without `--dictionary FILE` and `--end-mark`
abbrev pub encode_app : App
encode_app =
    taking (codes "encode")
    (named_rule (codes "dictionary") ∷ flag_rule (codes "end-mark") ∷ word_rule (codes "SCHEMA") ∷ words_rule (codes "NAME=FILE") ∷ [])

-- `decode SCHEMA` or `decode SCHEMA ANSWER`, with or without `--dictionary FILE` and `--output NAME`
abbrev pub decode_app : App
decode_app =
    taking (codes "decode")
    (named_rule (codes "dictionary") ∷ named_rule (codes "output") ∷ word_rule (codes "SCHEMA") ∷ optional_rule (codes "ANSWER") ∷ [])

-- `kinds SCHEMA QUERY`
abbrev pub kinds_app : App
kinds_app = taking (codes "kinds") (word_rule (codes "SCHEMA") ∷ word_rule (codes "QUERY") ∷ [])

-- the program, with a command
abbrev pub top_app : App
top_app = record { top = record (new_app (codes "loom")).top { subcommand_required = true }; subs = [] }

-- the whole line
abbrev pub line_app : App
line_app = with_subcommand (with_subcommand (with_subcommand top_app encode_app.top) decode_app.top) kinds_app.top

-- the answer that is named; standard input where none is
abbrev pub IsAskedAnswer : Option Text → Text → Type 0
IsAskedAnswer None answer = answer ≡ codes "-"
IsAskedAnswer (Some word) answer = answer ≡ word

-- what is asked for is what the matches of a command hold
abbrev pub HoldsAt : Text → List Row → Asked → Type 0
HoldsAt name rows (Encode schema files dictionary end_mark) =
    (name ≡ codes "encode") × (first_of (codes "SCHEMA") rows ≡ Some schema.now)
    × (all_of (codes "NAME=FILE") rows ≡ Some (map (λ s. s.now) files.items))
    × (option_map (λ s. s.now) dictionary ≡ first_of (codes "dictionary") rows) × IsFlag (codes "end-mark") rows end_mark
HoldsAt name rows (Decode asked) =
    (name ≡ codes "decode") × (first_of (codes "SCHEMA") rows ≡ Some asked.schema.now)
    × IsAskedAnswer (first_of (codes "ANSWER") rows) asked.answer.now
    × (option_map (λ s. s.now) asked.dictionary ≡ first_of (codes "dictionary") rows)
    × (option_map (λ s. s.now) asked.output ≡ first_of (codes "output") rows)
HoldsAt name rows (Kinds asked) =
    (name ≡ codes "kinds") × (first_of (codes "SCHEMA") rows ≡ Some asked.schema.now) × (first_of (codes "QUERY") rows ≡ Some asked.query.now)

abbrev pub HoldsOf : Option (Text × List Row) → Asked → Type 0
HoldsOf None asked = ⊥
HoldsOf (Some found) asked = HoldsAt found.0 found.1 asked

-- the words ask for this: it is what their matches hold
unfoldable pub Asks : List Text → Asked → Type 0
Asks words asked = HoldsOf (subcommand_of line_app words) asked
