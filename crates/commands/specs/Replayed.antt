-- What the replay of a schedule writes.
use Rattle.std.specs.Prelude.{◌≡◌, ◌≤◌, ℕ, List, length, Option, Result, Ok, Err}
use Rattle.std.specs.Io.KnownBytes.{Appends}
use Rattle.semantics.specs.Query.{Input as Declared, Name}
use Rattle.semantics.specs.Graph.{Graph}
use Rattle.graph.specs.Limits.{max_vertices}
use Rattle.collector.specs.WrittenBytes.{AppendsFront}
use Rattle.schedule.specs.Commands.{Command}
use Rattle.schedule.specs.ScheduleText.{IsRefused, IsScheduleText}
use Rattle.schedule.specs.declared.refusal.ScheduleRefusal.TheVariants.{At}
use Rattle.schedule.specs.declared.verb.ViewKind.{ViewKind}
use Rattle.replay.specs.Replays.{KeepsPromise, PrintsOutput, Replays, Setting}
use Rattle.replay.specs.Waits.{State, at_first}
use Rattle.compile.specs.Compiled.{IsCompiled, IsQueryFault, IsTaken}
use Rattle.diagnostics.specs.declared.fault.Fault.{Fault}
use Rattle.diagnostics.specs.declared.fault.Fault.TheVariants.{Query, TooManyVertices, Schedule, NoMemory, ReadQuery, ReadInput, Write}

-- over the graph of the query, that many workers with views of that kind lead the schedule's commands from the opening world on, and the text
-- is what they print
pub record IsReplay (query : List ℕ) (workers : ℕ) (kind : ViewKind) (schedule text : List ℕ) : Type 0 where
  pub graph : Graph
  pub inputs : List Declared
  pub outputs : List Name
  pub compiled : IsCompiled query graph inputs outputs
  pub few : length graph ≤ max_vertices
  pub commands : List Command
  pub read : IsScheduleText kind schedule commands
  pub last : State
  pub replays : Replays (record { graph = graph; workers = workers; views = kind; inputs = inputs; outputs = outputs }) at_first commands last text

-- what is printed of an epoch at an output keeps the promise to the query's own program: the answer so far is part of what the query means there on
-- what was fed, and all of it once the epoch has passed
abbrev pub IsPromisedByText : (query : List ℕ) → Setting → State → (epoch output : ℕ) → (label text : List ℕ) → Type 0
IsPromisedByText query s x epoch output label text =
    (c : IsCompiled query s.graph s.inputs s.outputs) → PrintsOutput s x epoch output label text → KeepsPromise s x.world output epoch c.program

-- why there is no such text: the query is refused, or it is taken and the schedule is refused, or there was no memory
abbrev pub IsReplayFault : List ℕ → ViewKind → List ℕ → Fault → Type 0
IsReplayFault query kind schedule (Query code start end) = IsQueryFault query (Query code start end)
IsReplayFault query kind schedule TooManyVertices = IsQueryFault query TooManyVertices
IsReplayFault query kind schedule (Schedule code line) = IsTaken query × IsRefused kind schedule (At code line)
IsReplayFault query kind schedule NoMemory = Unit {0}
IsReplayFault query kind schedule _ = ⊥

-- The text is written whole at Ok, and a beginning of it where the writer failed. Else nothing is written: the query is refused, or
-- the schedule, or a reader failed, or there was no memory.
abbrev pub ReplayEnds : List ℕ → ℕ → ViewKind → List ℕ → Option (List ℕ) → Option (List ℕ) → Result (Unit {0}) Fault → Type 0
ReplayEnds query workers kind schedule old new (Ok u) = (text : List ℕ) × IsReplay query workers kind schedule text × Appends old new text
ReplayEnds query workers kind schedule old new (Err Write) = (text : List ℕ) × IsReplay query workers kind schedule text × AppendsFront old new text
ReplayEnds query workers kind schedule old new (Err (Query code start end)) = (new ≡ old) × IsReplayFault query kind schedule (Query code start end)
ReplayEnds query workers kind schedule old new (Err TooManyVertices) = (new ≡ old) × IsReplayFault query kind schedule TooManyVertices
ReplayEnds query workers kind schedule old new (Err (Schedule code line)) = (new ≡ old) × IsReplayFault query kind schedule (Schedule code line)
ReplayEnds query workers kind schedule old new (Err NoMemory) = new ≡ old
ReplayEnds query workers kind schedule old new (Err ReadQuery) = new ≡ old
ReplayEnds query workers kind schedule old new (Err ReadInput) = new ≡ old
ReplayEnds query workers kind schedule old new (Err _) = ⊥
