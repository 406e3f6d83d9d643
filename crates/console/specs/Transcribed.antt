-- How the commands end on what the texts of their names handed over.
use Rattle.std.specs.Prelude.{◌≡◌, ◌<◌, ◌⊎◌, ℕ, suc, Bool, false, true, List, length, Option, Some, None, Result, IfSome, IsErrOf, option_map}
use Rattle.lexer.specs.Tokens.{max_length}
use Rattle.command_line.specs.Counts.{count_of}
use Rattle.command_line.specs.declared.line_options.GraphForm.{GraphForm}
use Rattle.command_line.specs.declared.line_options.Options.{Options}
use Rattle.command_line.specs.declared.line_options.Options.TheVariants.{Run, Follow, Check, Graph, Format, Sql, Replay, Explain}
use Rattle.command_line.specs.declared.worker_count.Workers.{Workers}
use Rattle.schedule.specs.declared.verb.ViewKind.{ViewKind}
use Rattle.collector.specs.Transcripts.{bytes_of, is_complete, is_marked, is_marked_text, name_of, opened_as}
use Rattle.collector.specs.Watching.{handed, has_ended}
use Rattle.collector.specs.declared.transcript.Opened.{Opened}
use Rattle.collector.specs.declared.transcript.Transcript.{Transcript}
use Rattle.follow.specs.Follows.{Reading}
use Rattle.diagnostics.specs.declared.fault.Fault.{Fault}
use Rattle.diagnostics.specs.declared.fault.Fault.TheVariants.{NoWorker}
use Rattle.commands.specs.Readings.{Known}
use Rattle.console.specs.Asked.{script_asked, query_word}
use Rattle.commands.specs.Checks.{CheckEnds}
use Rattle.commands.specs.Followed.{FollowEnds}
use Rattle.commands.specs.Formats.{FormatEnds}
use Rattle.commands.specs.Scripts.{ScriptEnds}
use Rattle.sql.specs.Asked.{Asked}
use Rattle.commands.specs.Graphs.{GraphEnds}
use Rattle.commands.specs.Heeded.{Heeds}
use Rattle.commands.specs.InputChecks.{CheckInputEnds}
use Rattle.commands.specs.Readings.{IsOfQuery, IsOfReading, read_part}
use Rattle.commands.specs.Replayed.{ReplayEnds}
use Rattle.commands.specs.Runs.{Ends}
use Rattle.console.specs.Views.{kind_asked}
use Rattle.console.specs.declared.transcripts.Transcripts.{Transcripts}

-- the text of that name was opened, as one that has to end with the mark or not, and this is what it handed over
abbrev pub IsOf : Option Transcript → (name : List ℕ) → (marked : Bool) → Transcript → Type 0
IsOf kept name marked t = (kept ≡ Some t) × (name_of t ≡ name) × (is_marked t ≡ marked)

-- what is kept is the transcript of a text that was closed so
abbrev pub IsClosed : {R : Type 0} → Option Transcript → Opened R → Type 0
IsClosed kept o =
    (t : Transcript) × (kept ≡ Some t) × (name_of t ≡ opened_as o) × (bytes_of t ≡ handed o.text) × (is_complete t ≡ has_ended o.text)
    × (is_marked t ≡ is_marked_text o)

-- a query was read to its end, or to one byte more than it may have
abbrev pub IsEnough : Transcript → Type 0
IsEnough t = (is_complete t ≡ true) ⊎ (length (bytes_of t) ≡ suc max_length)

-- a query was read so; where its bytes are known, these are they
abbrev pub IsReadQuery : (known : Option (List ℕ)) → Transcript → Type 0
IsReadQuery known t = IsEnough t × IfSome known (λ q. bytes_of t ≡ read_part q)

-- A command of one text ends so on what the text of that name handed over, which is enough of it unless the fault is of reading.
pub record EndsOnText (queries : Known) (texts : Transcripts) (name : List ℕ) (promised : (query : List ℕ) → Type 0) (result : Result (Unit {0}) Fault) : Type 0 where
  pub query : Transcript
  pub opened : IsOf texts.query name false query
  pub whole : IsReadQuery (queries name) query ⊎ IsOfQuery result
  pub ends : promised (bytes_of query)

-- A command of two texts ends so on what the texts of these names handed over, which is all of them unless the fault is of reading. The second may
-- have to end with the mark.
pub record EndsOnTexts (queries : Known) (texts : Transcripts) (query_name input_name : List ℕ) (marked : Bool)
    (promised : (query input : List ℕ) → Type 0) (result : Result (Unit {0}) Fault) : Type 0 where
  pub query : Transcript
  pub input : Transcript
  pub opened : IsOf texts.query query_name false query
  pub other_opened : IsOf texts.input input_name marked input
  pub whole : (IsReadQuery (queries query_name) query × (is_complete input ≡ true)) ⊎ IsOfReading result
  pub ends : promised (bytes_of query) (bytes_of input)

-- what was read is what the text handed over, and where following has met its end, that is all
abbrev pub IsReadFrom : Transcript → Reading
IsReadFrom t bytes ended = (bytes ≡ bytes_of t) × (ended ≡ true → is_complete t ≡ true)

-- Following ends so on the whole query, and on what the input handed over so far. Where that has to end with the mark, it has an end only there.
pub record FollowsOnTexts (offset : ℕ) (queries : Known) (texts : Transcripts) (query_name input_name : List ℕ) (marked : Bool)
    (old new : Option (List ℕ)) (result : Result (Unit {0}) Fault) : Type 0 where
  pub query : Transcript
  pub input : Transcript
  pub opened : IsOf texts.query query_name false query
  pub other_opened : IsOf texts.input input_name marked input
  pub whole : IsReadQuery (queries query_name) query ⊎ IsOfQuery result
  pub ends : FollowEnds offset (bytes_of query) (IsReadFrom input) old new result

-- each command ends so
abbrev pub RunsOnTexts : Known → Transcripts → (query input : List ℕ) → (marked : Bool) → Option (List ℕ) → Option (List ℕ) → Result (Unit {0}) Fault → Type 0
RunsOnTexts queries texts query input marked old new result = EndsOnTexts queries texts query input marked (λ q i. Ends q i old new result × Heeds q old new result) result

-- the query alone where no input is named, and else both
abbrev pub ChecksOnTexts : Known → Transcripts → (query : List ℕ) → (input : Option (List ℕ)) → Option (List ℕ) → Option (List ℕ) → Result (Unit {0}) Fault → Type 0
ChecksOnTexts queries texts query None old new result = EndsOnText queries texts query (λ q. CheckEnds q old new result) result
ChecksOnTexts queries texts query (Some input) old new result = EndsOnTexts queries texts query input false (λ q i. CheckInputEnds q i old new result) result

abbrev pub FormatsOnTexts : Known → Transcripts → (query : List ℕ) → Option (List ℕ) → Option (List ℕ) → Result (Unit {0}) Fault → Type 0
FormatsOnTexts queries texts query old new result = EndsOnText queries texts query (λ q. FormatEnds q old new result) result

abbrev pub GraphsOnTexts : Known → Transcripts → GraphForm → (query : List ℕ) → Option (List ℕ) → Option (List ℕ) → Result (Unit {0}) Fault → Type 0
GraphsOnTexts queries texts form query old new result = EndsOnText queries texts query (λ q. GraphEnds form q old new result) result

abbrev pub ScriptsOnTexts : Known → Transcripts → Asked → (query : List ℕ) → Option (List ℕ) → Option (List ℕ) → Result (Unit {0}) Fault → Type 0
ScriptsOnTexts queries texts a query old new result = EndsOnText queries texts query (λ q. ScriptEnds a q old new result) result

abbrev pub ReplaysOnTexts : Known → Transcripts → Workers → ViewKind → (query schedule : List ℕ) → Option (List ℕ) → Option (List ℕ) → Result (Unit {0}) Fault → Type 0
ReplaysOnTexts queries texts workers kind query schedule old new result =
    EndsOnTexts queries texts query schedule false (λ q s. ReplayEnds q (count_of workers) kind s old new result × Heeds q old new result) result

-- only where several workers are asked for, one may not be started
abbrev pub StartsSeveral : Workers → Result (Unit {0}) Fault → Type 0
StartsSeveral workers result = IsErrOf result NoWorker → 1 < count_of workers

-- the command of these options ends so; one that explains a number reads no text
abbrev pub EndsOnRead : Known → Transcripts → Options → Option (List ℕ) → Option (List ℕ) → Result (Unit {0}) Fault → Type 0
EndsOnRead queries texts (Run query input workers watch stats end_mark explain) old new result =
    RunsOnTexts queries texts (query_word query) input.now end_mark old new result × StartsSeveral workers result
EndsOnRead queries texts (Follow query input workers first end_mark explain) old new result = FollowsOnTexts first.number queries texts (query_word query) input.now end_mark old new result
EndsOnRead queries texts (Check query input heap explain) old new result = ChecksOnTexts queries texts (query_word query) (option_map (λ s. s.now) input) old new result
EndsOnRead queries texts (Graph query form heap explain) old new result = GraphsOnTexts queries texts form (query_word query) old new result
EndsOnRead queries texts (Format query explain) old new result = FormatsOnTexts queries texts (query_word query) old new result
EndsOnRead queries texts (Sql query form epochs output explain) old new result = ScriptsOnTexts queries texts (script_asked form epochs (option_map (λ s. s.now) output)) (query_word query) old new result
EndsOnRead queries texts (Replay query schedule workers views explain) old new result = ReplaysOnTexts queries texts workers (kind_asked views) (query_word query) schedule.now old new result
EndsOnRead queries texts (Explain code) old new result = Unit {0}
