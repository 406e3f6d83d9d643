-- The command line: its commands, and what the matches of the words hold.
use Rattle.std.specs.Prelude.{◌≡◌, ◌++◌, ◌∷◌, ℕ, Bool, true, false, List, [], Option, Some, None, codes, fold, option_map}
use Rattle.clap.specs.Lexer.{usize_max}
use Rattle.clap.specs.Words.{App, Row, Rule, Text, first_of, new_app, new_rule, one_of, subcommand_of, with_rule, with_subcommand}
use Rattle.clap.specs.declared.builder.action.ArgAction.TheVariants.{SetTrue}
use Rattle.clap.specs.declared.builder.value_parser.ValueParser.TheVariants.{Unsigned}
use Rattle.command_line.specs.Numbers.{Spells}
use Rattle.command_line.specs.declared.heap_size.HeapSize.{HeapSize}
use Rattle.command_line.specs.declared.line_options.GraphForm.{GraphForm}
use Rattle.command_line.specs.declared.line_options.GraphForm.TheVariants.{Lines, Dot}
use Rattle.command_line.specs.declared.query.Query.{Query}
use Rattle.command_line.specs.declared.query.Query.TheVariants.{File, Inline}
use Rattle.command_line.specs.declared.script_form.ScriptForm.{ScriptForm}
use Rattle.command_line.specs.declared.script_form.ScriptForm.TheVariants.{Postgres, Sqlite, Spark}
use Rattle.command_line.specs.declared.line_options.Options.{Options}
use Rattle.command_line.specs.declared.line_options.Options.TheVariants.{Run, Follow, Check, Graph, Format, Sql, Replay, Explain}

-- a word that has to be given
abbrev pub word_rule : Text → Rule
word_rule id = record (new_rule id) { required = true }

-- a word that may be given
abbrev pub optional_rule : Text → Rule
optional_rule id = new_rule id

-- one word or more
abbrev pub words_rule : Text → Rule
words_rule id = record (word_rule id) { range = Some (record { start_inclusive = 1; end_inclusive = usize_max }) }

-- a flag, `--` and its name
abbrev pub flag_rule : Text → Rule
flag_rule id = record (new_rule id) { long = Some id; action = Some SetTrue }

-- a flag, or `-` and a letter
abbrev pub letter_rule : Text → ℕ → Rule
letter_rule id letter = record (flag_rule id) { short = Some letter }

-- an option, `--` and its name, and then a word
abbrev pub named_rule : Text → Rule
named_rule id = record (new_rule id) { long = Some id; value_names = 1 }

-- the same, which has to be given
abbrev pub required_rule : Text → Rule
required_rule id = record (named_rule id) { required = true }

-- an option, `--` and its name, and then a number in that range
abbrev pub range_rule : Text → (least most : ℕ) → Rule
range_rule id least most = record (new_rule id) { long = Some id; value_names = 1; parser = Some (Unsigned least most) }

-- `-e`, or `--inline`
abbrev pub inline_rule : Rule
inline_rule = letter_rule (codes "inline") 101

-- the options for the number of workers, for the number of the first epoch and for the size of the heap
abbrev pub workers_rule : Rule
workers_rule = range_rule (codes "workers") 1 64

abbrev pub first_epoch_rule : Rule
first_epoch_rule = range_rule (codes "first-epoch") 0 9223372036854775807

abbrev pub heap_rule : Rule
heap_rule = range_rule (codes "heap") 64 16777216

-- `--end-mark`
abbrev pub end_mark_rule : Rule
end_mark_rule = flag_rule (codes "end-mark")

-- `--explain`, `-e` and a query
abbrev pub query_rules : List Rule
query_rules = flag_rule (codes "explain") ∷ inline_rule ∷ word_rule (codes "QUERY") ∷ []

-- a command with these
abbrev pub queried : App → App
queried a = fold with_rule a query_rules

-- the command of that name that takes these
abbrev pub taking : Text → List Rule → App
taking name rules = record (new_app name) { top = record (new_app name).top { rules = rules } }

-- `check QUERY` or `check QUERY INPUT`, with or without `--heap BYTES`
abbrev pub check_app : App
check_app = taking (codes "check") (heap_rule ∷ query_rules ++ optional_rule (codes "INPUT") ∷ [])

-- `graph QUERY`, with or without `--dot` and `--heap BYTES`
abbrev pub graph_app : App
graph_app = taking (codes "graph") (flag_rule (codes "dot") ∷ heap_rule ∷ query_rules)

-- `format QUERY`
abbrev pub format_app : App
format_app = taking (codes "format") query_rules

-- `sql QUERY`, with or without `--with`, `--wrapped`, `--epochs`, `--dialect NAME` and `--output NAME`
abbrev pub sql_app : App
sql_app =
    taking (codes "sql")
    (flag_rule (codes "with") ∷ flag_rule (codes "wrapped") ∷ flag_rule (codes "epochs") ∷ named_rule (codes "dialect") ∷ named_rule (codes "output")
    ∷ query_rules)

-- `run QUERY INPUT`, with or without `--workers N`, `--watch`, `--stats`, `--dot` and `--end-mark`
abbrev pub run_app : App
run_app =
    taking (codes "run")
    (workers_rule ∷ flag_rule (codes "watch") ∷ flag_rule (codes "stats") ∷ flag_rule (codes "dot") ∷ end_mark_rule
    ∷ query_rules ++ word_rule (codes "INPUT") ∷ [])

-- `follow QUERY` or `follow QUERY INPUT`, with or without `--workers N`, `--first-epoch E` and `--end-mark`
abbrev pub follow_app : App
follow_app = taking (codes "follow") (workers_rule ∷ first_epoch_rule ∷ end_mark_rule ∷ query_rules ++ optional_rule (codes "INPUT") ∷ [])

-- `replay QUERY SCHEDULE`, with or without `--workers N` and `--views`
abbrev pub replay_app : App
replay_app = taking (codes "replay") (workers_rule ∷ flag_rule (codes "views") ∷ query_rules ++ word_rule (codes "SCHEDULE") ∷ [])

-- `explain CODE`
abbrev pub explain_app : App
explain_app = taking (codes "explain") (word_rule (codes "CODE") ∷ [])

-- the program, which tells its version and has commands
abbrev pub program_app : App
program_app = record (new_app (codes "loom")) { top = record (new_app (codes "loom")).top { has_version = true; subcommand_required = true } }

-- a line with all commands; what `encode`, `decode` and `kinds` take is read apart
abbrev pub with_commands : App → App
with_commands line =
    fold (λ line command. with_subcommand line command.top) line
    (run_app ∷ follow_app ∷ check_app ∷ graph_app ∷ format_app ∷ sql_app ∷ replay_app ∷ explain_app
    ∷ new_app (codes "encode") ∷ new_app (codes "decode") ∷ new_app (codes "kinds") ∷ [])

-- the whole line
abbrev pub line_app : App
line_app = with_commands program_app

-- the flag is what the matches hold of it
abbrev pub IsFlag : Text → List Row → Bool → Type 0
IsFlag id rows flag =
    (one_of id rows ≡ Some (codes "true") → flag ≡ true) × (one_of id rows ≡ Some (codes "false") → flag ≡ false) × (one_of id rows ≡ None → flag ≡ false)

-- a graph is drawn where the flag is given
abbrev pub is_dot : GraphForm → Bool
is_dot Lines = false
is_dot Dot = true

-- what each vertex did is told with either flag: in lines with the first alone
abbrev pub stats_asked : (stats dot : Bool) → Option GraphForm
stats_asked stats true = Some Dot
stats_asked true false = Some Lines
stats_asked false false = None

-- the statistics are as the two flags ask
pub record AreStats (rows : List Row) (asked : Option GraphForm) : Type 0 where
  pub stats : Bool
  pub dot : Bool
  pub is_stats : IsFlag (codes "stats") rows stats
  pub is_dot : IsFlag (codes "dot") rows dot
  pub is_asked : asked ≡ stats_asked stats dot

-- the number that the word spells, if there is a word
abbrev pub IsNumber : Option Text → Option ℕ → Type 0
IsNumber None None = Unit {0}
IsNumber (Some word) (Some n) = Spells word n
IsNumber None (Some n) = ⊥
IsNumber (Some word) None = ⊥

-- this many workers are asked for: one if no word says how many
abbrev pub AreAskedFor : Option Text → (workers : ℕ) → Type 0
AreAskedFor None workers = workers ≡ 1
AreAskedFor (Some word) workers = Spells word workers

-- the first epoch is called so: 0 if no word says its number
abbrev pub IsAskedFirst : Option Text → (number : ℕ) → Type 0
IsAskedFirst None number = number ≡ 0
IsAskedFirst (Some word) number = Spells word number

-- a heap of that size is asked for; none if no word says its size
abbrev pub IsAskedHeap : Option Text → Option HeapSize → Type 0
IsAskedHeap None None = Unit {0}
IsAskedHeap (Some word) (Some heap) = Spells word heap.bytes
IsAskedHeap None (Some heap) = ⊥
IsAskedHeap (Some word) None = ⊥

-- the word names the query's file, or with `-e` it is the query itself
abbrev pub IsAskedQuery : List Row → Query → Type 0
IsAskedQuery rows (File path) = (first_of (codes "QUERY") rows ≡ Some path.now) × IsFlag (codes "inline") rows false
IsAskedQuery rows (Inline text) = (first_of (codes "QUERY") rows ≡ Some text.now) × IsFlag (codes "inline") rows true

-- the database that is named; PostgreSQL where none is
abbrev pub IsAskedDatabase : Option Text → Text → Type 0
IsAskedDatabase None database = database ≡ codes "postgres"
IsAskedDatabase (Some word) database = database ≡ word

-- the form of a script for a database, whose numbers wrap or don't, or of one statement
abbrev pub IsFormFor : (database : Text) → (wrapped statement : Bool) → ScriptForm → Type 0
IsFormFor database wrapped statement (Postgres w s) = (database ≡ codes "postgres") × (w ≡ wrapped) × (s ≡ statement)
IsFormFor database wrapped statement Sqlite = (database ≡ codes "sqlite") × (wrapped ≡ false) × (statement ≡ false)
IsFormFor database wrapped statement (Spark w) = (database ≡ codes "spark") × (w ≡ wrapped) × (statement ≡ false)

-- the form is as the option and the flags ask
pub record IsForm (rows : List Row) (form : ScriptForm) : Type 0 where
  pub database : Text
  pub wrapped : Bool
  pub statement : Bool
  pub is_database : IsAskedDatabase (first_of (codes "dialect") rows) database
  pub is_wrapped : IsFlag (codes "wrapped") rows wrapped
  pub is_statement : IsFlag (codes "with") rows statement
  pub is_asked : IsFormFor database wrapped statement form

-- the input that is named is followed; standard input where none is
abbrev pub IsAskedInput : Option Text → Text → Type 0
IsAskedInput None input = input ≡ codes "-"
IsAskedInput (Some word) input = input ≡ word

-- the options are what the matches of a command hold
abbrev pub HoldsAt : Text → List Row → Options → Type 0
HoldsAt name rows (Run query input workers watch stats end_mark explain) =
    (name ≡ codes "run") × IsAskedQuery rows query × (first_of (codes "INPUT") rows ≡ Some input.now)
    × AreAskedFor (one_of (codes "workers") rows) workers.count
    × IsFlag (codes "watch") rows watch × AreStats rows stats × IsFlag (codes "end-mark") rows end_mark × IsFlag (codes "explain") rows explain
HoldsAt name rows (Follow query input workers first end_mark explain) =
    (name ≡ codes "follow") × IsAskedQuery rows query × IsAskedInput (first_of (codes "INPUT") rows) input.now
    × AreAskedFor (one_of (codes "workers") rows) workers.count × IsAskedFirst (one_of (codes "first-epoch") rows) first.number
    × IsFlag (codes "end-mark") rows end_mark × IsFlag (codes "explain") rows explain
HoldsAt name rows (Check query input heap explain) =
    (name ≡ codes "check") × IsAskedQuery rows query × (option_map (λ s. s.now) input ≡ first_of (codes "INPUT") rows)
    × IsAskedHeap (one_of (codes "heap") rows) heap
    × IsFlag (codes "explain") rows explain
HoldsAt name rows (Graph query form heap explain) =
    (name ≡ codes "graph") × IsAskedQuery rows query × IsFlag (codes "dot") rows (is_dot form)
    × IsAskedHeap (one_of (codes "heap") rows) heap
    × IsFlag (codes "explain") rows explain
HoldsAt name rows (Format query explain) = (name ≡ codes "format") × IsAskedQuery rows query × IsFlag (codes "explain") rows explain
HoldsAt name rows (Sql query form epochs output explain) =
    (name ≡ codes "sql") × IsAskedQuery rows query × IsForm rows form × IsFlag (codes "epochs") rows epochs
    × (option_map (λ s. s.now) output ≡ first_of (codes "output") rows)
    × IsFlag (codes "explain") rows explain
HoldsAt name rows (Replay query schedule workers views explain) =
    (name ≡ codes "replay") × IsAskedQuery rows query × (first_of (codes "SCHEDULE") rows ≡ Some schedule.now)
    × AreAskedFor (one_of (codes "workers") rows) workers.count
    × IsFlag (codes "views") rows views × IsFlag (codes "explain") rows explain
HoldsAt name rows (Explain code) = (name ≡ codes "explain") × (first_of (codes "CODE") rows ≡ Some code.now)

abbrev pub HoldsOf : Option (Text × List Row) → Options → Type 0
HoldsOf None options = ⊥
HoldsOf (Some found) options = HoldsAt found.0 found.1 options

-- the options are what the matches of the words hold
abbrev pub Holds : List Text → Options → Type 0
Holds words options = HoldsOf (subcommand_of line_app words) options

-- the query is read from standard input
abbrev pub IsQueryInput : Query → Type 0
IsQueryInput (File path) = path.now ≡ codes "-"
IsQueryInput (Inline text) = ⊥

-- both texts are standard input
abbrev pub AreBothInput : Query → (other : Text) → Type 0
AreBothInput query other = IsQueryInput query × (other ≡ codes "-")

-- both texts that the options name are standard input
abbrev pub NamesInputTwice : Options → Type 0
NamesInputTwice (Run query input workers watch stats end_mark explain) = AreBothInput query input.now
NamesInputTwice (Follow query input workers first end_mark explain) = AreBothInput query input.now
NamesInputTwice (Check query (Some input) heap explain) = AreBothInput query input.now
NamesInputTwice (Check query None heap explain) = ⊥
NamesInputTwice (Graph query form heap explain) = ⊥
NamesInputTwice (Format query explain) = ⊥
NamesInputTwice (Sql query form epochs output explain) = ⊥
NamesInputTwice (Replay query schedule workers views explain) = AreBothInput query schedule.now
NamesInputTwice (Explain code) = ⊥

-- the words ask for this: their matches hold the options, of whose texts at most one is standard input
abbrev pub Asks : List Text → Options → Type 0
Asks words options = Holds words options × (NamesInputTwice options → ⊥)

-- the words name standard input for both texts
abbrev pub AsksTwice : List Text → Type 0
AsksTwice words = (options : Options) × Holds words options × NamesInputTwice options
