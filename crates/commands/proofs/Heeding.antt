-- A command heeds its query.
use Rattle.std.proofs.Common.{ℕ, List, Option, Result, Ok, Err}
use Rattle.semantics.specs.Multiset.{Record}
use Rattle.semantics.specs.Query.{Program}
use Rattle.commands.specs.Answers.{Responds}
use Rattle.compile.specs.Compiled.{IsTaken}
use Rattle.commands.specs.Heeded.{Heeds}
use Rattle.commands.specs.Replayed.{ReplayEnds}
use Rattle.schedule.specs.declared.verb.ViewKind.{ViewKind}
use Rattle.diagnostics.specs.declared.fault.Fault.{Fault}
use Rattle.diagnostics.specs.declared.fault.Fault.TheVariants.{Query, TooManyVertices, Input as InputFault, Schedule, NoMemory, Count, NoWorker, Incomplete, ReadQuery, ReadInput, Write}

pub responds_heeds : (query : List ℕ) (p : Program) (count : ℕ) (records : ℕ → ℕ → List Record) (old new : Option (List ℕ)) (result : Result (Unit {0}) Fault) → IsTaken query → Responds p count records old new result → Heeds query old new result
responds_heeds query p count records old new (Ok u) t r = t
responds_heeds query p count records old new (Err Write) t r = t
responds_heeds query p count records old new (Err NoMemory) t r = r
responds_heeds query p count records old new (Err (Query code start end)) t r = absurd r
responds_heeds query p count records old new (Err TooManyVertices) t r = absurd r
responds_heeds query p count records old new (Err (InputFault code line)) t r = absurd r
responds_heeds query p count records old new (Err (Schedule code line)) t r = absurd r
responds_heeds query p count records old new (Err Count) t r = (r, t)
responds_heeds query p count records old new (Err NoWorker) t r = (r, t)
responds_heeds query p count records old new (Err Incomplete) t r = (r, t)
responds_heeds query p count records old new (Err ReadQuery) t r = absurd r
responds_heeds query p count records old new (Err ReadInput) t r = absurd r

pub replay_heeds : (query : List ℕ) (workers : ℕ) (kind : ViewKind) (schedule : List ℕ) (old new : Option (List ℕ)) (result : Result (Unit {0}) Fault) → ReplayEnds query workers kind schedule old new result → Heeds query old new result
replay_heeds query workers kind schedule old new (Ok u) e = (e.1.graph, e.1.inputs, e.1.outputs, e.1.compiled, e.1.few)
replay_heeds query workers kind schedule old new (Err Write) e = (e.1.graph, e.1.inputs, e.1.outputs, e.1.compiled, e.1.few)
replay_heeds query workers kind schedule old new (Err (Query code start end)) e = e
replay_heeds query workers kind schedule old new (Err TooManyVertices) e = e
replay_heeds query workers kind schedule old new (Err (Schedule code line)) e = (e.0, e.1.0)
replay_heeds query workers kind schedule old new (Err NoMemory) e = e
replay_heeds query workers kind schedule old new (Err ReadQuery) e = e
replay_heeds query workers kind schedule old new (Err ReadInput) e = e
replay_heeds query workers kind schedule old new (Err (InputFault code line)) e = absurd e
replay_heeds query workers kind schedule old new (Err Count) e = absurd e
replay_heeds query workers kind schedule old new (Err NoWorker) e = absurd e
replay_heeds query workers kind schedule old new (Err Incomplete) e = absurd e
