-- What a command line comes to: what is written of it to standard output, and its status.
use Rattle.std.specs.Prelude.{◌≡◌, ◌++◌, ◌⊎◌, Bool, false, true, ℕ, List, decimal, Option, Some, None, Result, Ok, Err, IfSome, option_map}
use Rattle.clap.specs.Words.{Text}
use Rattle.collector.specs.Transcripts.{bytes_of, is_complete}
use Rattle.collector.specs.declared.transcript.Transcript.{Transcript}
use Rattle.refusals.specs.declared.table.Explanation.{Explanation}
use Rattle.command_line.specs.Counts.{count_of}
use Rattle.command_line.specs.Line.{Asks}
use Rattle.command_line.specs.declared.line_options.GraphForm.{GraphForm}
use Rattle.command_line.specs.declared.line_options.Options.{Options}
use Rattle.command_line.specs.declared.line_options.Options.TheVariants.{Run, Follow, Check, Graph, Format, Sql, Replay, Explain}
use Rattle.command_line.specs.declared.query.Query.{Query}
use Rattle.command_line.specs.declared.worker_count.Workers.{Workers}
use Rattle.diagnostics.specs.Explanations.{ExplanationEnds}
use Rattle.diagnostics.specs.Faults.{status_of}
use Rattle.diagnostics.specs.declared.fault.Fault.{Fault}
use Rattle.sql.specs.Asked.{Asked}
use Rattle.commands.specs.Readings.{Known}
use Rattle.console.specs.Asked.{script_asked, known_inputs, queries_of, query_word}
use Rattle.commands.specs.Heeded.{Heeds}
use Rattle.commands.specs.Readings.{ChecksBothOver, ChecksOver, FollowsOver, FormatsOver, GraphsOver, ScriptsOver, read_part}
use Rattle.commands.specs.Replayed.{ReplayEnds}
use Rattle.commands.specs.Runs.{Ends, IsRun}
use Rattle.console.specs.Transcribed.{EndsOnRead, IsOf, IsReadQuery}
use Rattle.console.specs.Views.{kind_asked}
use Rattle.console.specs.declared.transcripts.Transcripts.{Transcripts}
use Rattle.schedule.specs.declared.verb.ViewKind.{ViewKind}

-- each command ends as its function promises, on the queries and the texts that are known
abbrev pub RunsOn : (queries texts : Known) → (query input : List ℕ) → Option (List ℕ) → Option (List ℕ) → Result (Unit {0}) Fault → Type 0
RunsOn queries texts query input old new result =
    IfSome (queries query) (λ q. Heeds (read_part q) old new result × IfSome (texts input) (λ i. Ends (read_part q) i old new result))

abbrev pub FollowsOn : (offset : ℕ) → (queries texts : Known) → (query input : List ℕ) → Option (List ℕ) → Option (List ℕ) → Result (Unit {0}) Fault → Type 0
FollowsOn offset queries texts query input old new result = FollowsOver offset (queries query) (texts input) old new result

-- the query alone where no input is named, and else both
abbrev pub ChecksOn : (queries texts : Known) → (query : List ℕ) → (input : Option (List ℕ)) → Option (List ℕ) → Option (List ℕ) → Result (Unit {0}) Fault → Type 0
ChecksOn queries texts query None old new result = ChecksOver (queries query) old new result
ChecksOn queries texts query (Some input) old new result = ChecksBothOver (queries query) (texts input) old new result

abbrev pub FormatsOn : (queries : Known) → (query : List ℕ) → Option (List ℕ) → Option (List ℕ) → Result (Unit {0}) Fault → Type 0
FormatsOn queries query old new result = FormatsOver (queries query) old new result

abbrev pub GraphsOn : (queries : Known) → GraphForm → (query : List ℕ) → Option (List ℕ) → Option (List ℕ) → Result (Unit {0}) Fault → Type 0
GraphsOn queries form query old new result = GraphsOver form (queries query) old new result

abbrev pub ScriptsOn : (queries : Known) → Asked → (query : List ℕ) → Option (List ℕ) → Option (List ℕ) → Result (Unit {0}) Fault → Type 0
ScriptsOn queries a query old new result = ScriptsOver a (queries query) old new result

abbrev pub ReplaysOn : (queries texts : Known) → Workers → ViewKind → (query schedule : List ℕ) → Option (List ℕ) → Option (List ℕ) → Result (Unit {0}) Fault → Type 0
ReplaysOn queries texts workers kind query schedule old new result =
    IfSome (queries query)
    (λ q. Heeds (read_part q) old new result × IfSome (texts schedule) (λ s. ReplayEnds (read_part q) (count_of workers) kind s old new result))

-- what a refusal's number means is written
abbrev pub Explains : (code : List ℕ) → Option (List ℕ) → Option (List ℕ) → Result (Unit {0}) Fault → Type 0
Explains code old new result = (row : Explanation) × (code ≡ decimal row.code) × ExplanationEnds row old new result

-- the command of these options ends so
abbrev pub EndsOn : (queries texts : Known) → Options → Option (List ℕ) → Option (List ℕ) → Result (Unit {0}) Fault → Type 0
EndsOn queries texts (Run query input workers watch stats end_mark explain) old new result = RunsOn queries (known_inputs end_mark texts) (query_word query) input.now old new result
EndsOn queries texts (Follow query input workers first end_mark explain) old new result = FollowsOn first.number queries (known_inputs end_mark texts) (query_word query) input.now old new result
EndsOn queries texts (Check query input heap explain) old new result = ChecksOn queries texts (query_word query) (option_map (λ s. s.now) input) old new result
EndsOn queries texts (Graph query form heap explain) old new result = GraphsOn queries form (query_word query) old new result
EndsOn queries texts (Format query explain) old new result = FormatsOn queries (query_word query) old new result
EndsOn queries texts (Sql query form epochs output explain) old new result = ScriptsOn queries (script_asked form epochs (option_map (λ s. s.now) output)) (query_word query) old new result
EndsOn queries texts (Replay query schedule workers views explain) old new result = ReplaysOn queries texts workers (kind_asked views) (query_word query) schedule.now old new result
EndsOn queries texts (Explain code) old new result = Explains code.now old new result

-- 0 of a command that is done, and else its fault's
abbrev pub status_after : Result (Unit {0}) Fault → ℕ
status_after (Ok u) = 0
status_after (Err fault) = status_of fault

-- The command has ended on its texts, on those that are known and on what was read of them, and the status says how.
pub record HasEnded (texts : Known) (read : Transcripts) (options : Options) (old new : Option (List ℕ)) (status : ℕ) : Type 0 where
  pub result : Result (Unit {0}) Fault
  pub ends : EndsOn (queries_of options texts) texts options old new result
  pub on_read : EndsOnRead (queries_of options texts) read options old new result
  pub reported : status ≡ status_after result

-- nothing is written: the line is refused, or no refusal has the number that is to be explained, or there was no memory to read the line
abbrev pub IsTurnedDown : Option (List ℕ) → Option (List ℕ) → ℕ → Type 0
IsTurnedDown old new status = (new ≡ old) × ((status ≡ 2) ⊎ (status ≡ 5))

-- what the options ask for is done, or they are turned down
abbrev pub Obeys : Known → Transcripts → Options → Option (List ℕ) → Option (List ℕ) → ℕ → Type 0
Obeys texts read options old new status = IsTurnedDown old new status ⊎ HasEnded texts read options old new status

-- the line is turned down, or its words ask for the options, and their command has ended
abbrev pub Answers : Known → Transcripts → (words : List Text) → Option (List ℕ) → Option (List ℕ) → ℕ → Type 0
Answers texts read words old new status = IsTurnedDown old new status ⊎ ((options : Options) × Asks words options × HasEnded texts read options old new status)

-- The query and the input of these names were read to their ends (of the query one byte more than it may have is enough, and an input that has to
-- end with the mark did), and what was written is the query's answer to the input.
pub record IsAnswered (queries : Known) (read : Transcripts) (query_name input_name : List ℕ) (end_mark : Bool) (old new : List ℕ) : Type 0 where
  pub query : Transcript
  pub input : Transcript
  pub opened : IsOf read.query query_name false query
  pub other_opened : IsOf read.input input_name end_mark input
  pub enough : IsReadQuery (queries query_name) query
  pub complete : is_complete input ≡ true
  pub text : List ℕ
  pub run : IsRun (bytes_of query) (bytes_of input) text
  pub written : new ≡ old ++ text

-- the options are of a run of a query and an input of these names, which may have to end with the mark
abbrev pub AsksRun : Options → (query input : List ℕ) → (marked : Bool) → Type 0
AsksRun (Run query input workers watch stats end_mark explain) q i m = (q ≡ query_word query) × (i ≡ input.now) × (m ≡ end_mark)
AsksRun _ q i m = ⊥
