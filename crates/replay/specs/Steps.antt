-- What the call for each line does.
use Rattle.std.specs.Prelude.{Bool, true, false, IsTrue, codes, ◌≡◌, ◌↔◌, ◌<◌, ◌≤◌, ◌⊎◌, ℕ, List, [], length, Option, Result, Ok, Err, Some, None}
use Rattle.semantics.specs.Multiset.{Record}
use Rattle.semantics.specs.Query.{Input}
use Rattle.graph.specs.Shown.{GraphValue, shown_graph, shown_inputs, shown_names}
use Rattle.machine.specs.Step.{Step}
use Rattle.events.specs.Jobs.{Pass}
use Rattle.rows.specs.declared.fault.WorkFault.{WorkFault}
use Rattle.rows.specs.declared.fault.WorkFault.TheVariants as fault
use Rattle.board.specs.Shown.{Shown, tables}
use Rattle.board.specs.Lateness.{BoardShown, CallsPassed, KeepsCalled, Posts, waits_for}
use Rattle.board.specs.Showing.{Shows}
use Rattle.board.specs.Kept.{Goes}
use Rattle.board.specs.Answers.{Holds}
use Rattle.board.specs.Codes.{refusal_code}
use Rattle.board.specs.declared.refusal.StepRefusal.{StepRefusal}
use Rattle.collector.specs.Lines.{IsAbsent, IsInput}
use Rattle.schedule.specs.Commands.{Command}
use Rattle.schedule.specs.ScheduleText.{IsScheduleText}
use Rattle.schedule.specs.declared.verb.ViewKind.{ViewKind}
use Rattle.replay.specs.Replays.{Setting, Does, PrintsAnswer, PrintsOutput, Replays, after_saying, refusal_line}
use Rattle.replay.specs.Waits.{State, TellsMore, Told, Waits, at_first, kind_of}
use Rattle.replay.specs.Hands.{HoldsAll}
use Rattle.replay.specs.declared.refusal.Refusal.{Refusal}
use Rattle.replay.specs.declared.refusal.Refusal.TheVariants as refusal

-- the word for whether an epoch has passed
abbrev pub word_of : Bool → List ℕ
word_of true = codes " passed"
word_of false = codes " open"

-- a code gives the refusal; lack of memory has none
abbrev pub refusal_by : Option ℕ → Refusal
refusal_by (Some code) = refusal.Step code
refusal_by None = refusal.NoMemory

-- the refusal of a line for a refusal of the board
abbrev pub refusal_of : StepRefusal → Refusal
refusal_of r = refusal_by (refusal_code r)

-- the refusal of a line whose event could not be computed
abbrev pub fault_refusal : WorkFault → Refusal
fault_refusal fault.NoMemory = refusal.NoMemory
fault_refusal fault.Count = refusal.Step 39

-- the setting of a graph's schedule
abbrev pub setting_on : ViewKind → GraphValue → (workers : ℕ) → Setting
setting_on kind g n = record { graph = shown_graph g; workers = n; views = kind; inputs = shown_inputs g; outputs = shown_names g }

-- the setting of the schedule of a board, whose views may be late or not
abbrev pub setting_of : (late : Bool) → Shown → Setting
setting_of late s = setting_on (kind_of late) s.graph (length s.sides)

-- the board has this many batches waiting, for each worker and sender
abbrev pub ShowsWaits : BoardShown → Waits → Type 0
ShowsWaits b waits = (worker sender : ℕ) → worker < length b.shown.sides → sender ≤ length b.shown.sides → waits_for b worker sender ≡ waits worker sender

-- the board shows the state's world, and what waits in it; what was said to have passed, its first worker calls so
pub record ShowsState (b : BoardShown) (x : State) : Type 0 where
  pub world : Shows b.shown x.world
  pub waits : ShowsWaits b x.waits
  pub told : (output epoch : ℕ) → x.told output epoch ≡ true → CallsPassed b output epoch

-- the first input of that name has this number and arity; a name that no input has gets the greatest number
abbrev pub IsNumbered : List Input → List ℕ → ℕ × ℕ → Type 0
IsNumbered inputs name p = IsInput inputs name p.0 p.1 ⊎ (IsAbsent inputs name × (p.0 ≡ 4294967295))

-- the graph, the number of workers and their tables stay
pub record Stays (s t : Shown) : Type 0 where
  pub graph : t.graph ≡ s.graph
  pub workers : length t.sides ≡ length s.sides
  pub tables : tables t ≡ tables s

-- from the state x the command leads to a state that the board shows then, and in hand is exactly what its workers hold
pub record LeadsFrom (late : Bool) (b c : BoardShown) (hand : List (Option Pass)) (command : Command) (text : List ℕ) (x : State) : Type 0 where
  pub after : State
  pub shows : ShowsState c after
  pub hand_after : HoldsAll after.world (length b.shown.sides) hand
  pub does : Does (setting_of late b.shown) x command after text

-- the same from any state that the board showed
pub record Leads (late : Bool) (b c : BoardShown) (old new : List (Option Pass)) (command : Command) (text : List ℕ) : Type 0 where
  pub stays : Stays b.shown c.shown
  pub led : (x : State) → ShowsState b x → HoldsAll x.world (length b.shown.sides) old → LeadsFrom late b c new command text x

-- from the state x a question about the epoch prints this text, and leads to a state that the board shows too
pub record Says (late : Bool) (b : BoardShown) (epoch : ℕ) (text : List ℕ) (x : State) : Type 0 where
  pub told : Told
  pub more : TellsMore x.told told
  pub shows : ShowsState b (after_saying x told)
  pub prints : PrintsAnswer (setting_of late b.shown) (after_saying x told) epoch text

-- the text of one output, in each state that the board shows in which what was said of it is what the first worker calls passed
pub record SaysOne (late : Bool) (b : BoardShown) (output epoch : ℕ) (label text : List ℕ) : Type 0 where
  pub seen : Bool
  pub right : IsTrue seen ↔ CallsPassed b output epoch
  pub prints : (x : State) → ShowsState b x → x.told output epoch ≡ seen → PrintsOutput (setting_of late b.shown) x epoch output label text

-- the command is done, or refused with its line
abbrev pub Answers : (late : Bool) → BoardShown → BoardShown → (old new : List (Option Pass)) → Command → {T : Type 0} → Result T Refusal → Type 0
Answers late b c old new command (Ok _) = Leads late b c old new command []
Answers late b c old new command (Err (refusal.Step code)) = Leads late b c old new command (refusal_line code)
Answers late b c old new command (Err refusal.NoMemory) = Stays b.shown c.shown

-- the command isn't a question
abbrev pub IsStep : Command → Type 0
IsStep (Command.feed input fields) = Unit {0}
IsStep (Command.seal input) = Unit {0}
IsStep (Command.close input) = Unit {0}
IsStep (Command.take worker choice) = Unit {0}
IsStep (Command.commit worker) = Unit {0}
IsStep (Command.deliver worker choice) = Unit {0}
IsStep (Command.print epoch) = ⊥
IsStep (Command.apply worker sender) = Unit {0}

-- the event was out on the board; a commit ended it and posted its changes
pub record IsCommitted (late : Bool) (b : BoardShown) (p : Pass) (c : BoardShown) : Type 0 where
  pub holds : Holds b.shown p
  pub out : ℕ → List Record
  pub goes : Goes b.shown (Step.commit p.worker p.job.happening out) c.shown
  pub posts : Posts late p.worker b c
  pub stays : Stays b.shown c.shown

-- the event was out on the board; it was abandoned, which stopped the board and posted nothing
pub record IsAbandoned (b : BoardShown) (p : Pass) (c : BoardShown) : Type 0 where
  pub holds : Holds b.shown p
  pub goes : Goes b.shown (Step.abandon p.worker p.job.happening) c.shown
  pub waits : c.waits ≡ b.waits
  pub called : KeepsCalled b c
  pub stays : Stays b.shown c.shown

-- the text is a schedule for views of that kind, and from the engine's opening world, where nothing waits, its commands print this answer
pub record AnswersText (kind : ViewKind) (g : GraphValue) (workers : ℕ) (text answer : List ℕ) : Type 0 where
  pub commands : List Command
  pub read : IsScheduleText kind text commands
  pub last : State
  pub replays : Replays (setting_on kind g workers) at_first commands last answer
