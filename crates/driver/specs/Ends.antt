-- How an event of a board ends.
use Rattle.std.specs.Prelude.{◌≡◌, ℕ, List, Option, Result, Ok, Err}
use Rattle.semantics.specs.Multiset.{Record}
use Rattle.machine.specs.Step.{Step}
use Rattle.board.specs.Jobs.{Pass}
use Rattle.rows.specs.declared.fault.WorkFault.{WorkFault}
use Rattle.rows.specs.declared.fault.WorkFault.TheVariants.{Count, NoMemory}
use Rattle.driver.specs.declared.ended.Ended.{Ended}
use Rattle.driver.specs.declared.ended.Ended.TheVariants as ended
use Rattle.board.specs.Answers.{Holds}
use Rattle.board.specs.Kept.{Goes}
use Rattle.board.specs.Shown.{Shown}

-- an event that was computed, or the one that was refused and the reason
abbrev pub Computed : Type 0
Computed = Result Pass ((Pass × Option WorkFault) × WorkFault)

-- the event itself
abbrev pub event_of : Computed → Pass
event_of (Ok d) = d
event_of (Err e) = e.0.0

-- it was out, and is abandoned by one step
abbrev pub Abandons : Shown → Shown → Pass → Type 0
Abandons s t p = Holds s p × Goes s (Step.abandon p.worker p.job.happening) t

-- it was out, and by one step it is committed, or abandoned
abbrev pub Ends : Shown → Shown → Pass → {T E : Type 0} → Result T E → Type 0
Ends s t p (Ok _) = Holds s p × ((out : ℕ → List Record) × Goes s (Step.commit p.worker p.job.happening out) t)
Ends s t p (Err _) = Abandons s t p

-- a refused event is abandoned for its reason, and a computed one for lack of memory alone
abbrev pub IsFaultOf : Computed → {T : Type 0} → Result T WorkFault → Type 0
IsFaultOf (Ok d) (Ok _) = Unit {0}
IsFaultOf (Ok d) (Err f) = f ≡ NoMemory
IsFaultOf (Err e) (Ok _) = ⊥
IsFaultOf (Err e) (Err f) = f ≡ e.1

-- why a worker ends whose event was abandoned
abbrev pub ended_of : WorkFault → Ended
ended_of NoMemory = ended.Stopped
ended_of Count = ended.Count
