-- A board on which nothing is left to do now.
use Rattle.std.specs.Prelude.{◌≡◌, ◌⊎◌, ◌<◌, ℕ, true, length, Option, Some, None}
use Rattle.ending.specs.Ending.{IsIdle}
use Rattle.machine.specs.World.{World}
use Rattle.semantics.specs.Graph.{input_count}
use Rattle.graph.specs.Shown.{shown_graph}
use Rattle.board.specs.Promises.{HasPassed}
use Rattle.board.specs.Shown.{Shown, input_at, net, side_at}
use Rattle.board.specs.Showing.{Shows}
use Rattle.tokens.specs.declared.rule.Place.TheVariants.{Home}
use Rattle.driver.specs.declared.ended.Ended.{Ended}
use Rattle.driver.specs.declared.ended.Ended.TheVariants.{Drained, Stopped, Count, Busy}

-- no worker may take a step, in any world that the board shows
abbrev pub IsAtRest : Shown → Type 0
IsAtRest s = (w : World) → Shows s w → IsIdle (net s) w

-- each epoch that is over at every input has passed at every output
abbrev pub HasPassedOver : Shown → Type 0
HasPassedOver s = (epoch : ℕ) → ((input : ℕ) → input < input_count (shown_graph s.graph) → ((input_at s input).closed ≡ true) ⊎ (epoch < (input_at s input).open_epoch)) → (output : ℕ) → HasPassed s output epoch

-- the worker had nothing more to do
abbrev pub IsDone : Option Ended → Type 0
IsDone None = Unit {0}
IsDone (Some Drained) = Unit {0}
IsDone (Some Stopped) = ⊥
IsDone (Some Count) = ⊥
IsDone (Some Busy) = ⊥

-- an event was abandoned
abbrev pub HasStopped : Option Ended → Type 0
HasStopped None = ⊥
HasStopped (Some Drained) = ⊥
HasStopped (Some Stopped) = Unit {0}
HasStopped (Some Count) = Unit {0}
HasStopped (Some Busy) = ⊥

-- there is such a worker, and no event of it is out
abbrev pub IsFree : Shown → (worker : ℕ) → Type 0
IsFree s k = (k < length s.sides) × ((side_at s k).place ≡ Home)

-- the worker is free again, unless an event of it was abandoned
abbrev pub StaysFree : Shown → (worker : ℕ) → Option Ended → Type 0
StaysFree s k None = IsFree s k
StaysFree s k (Some Drained) = IsFree s k
StaysFree s k (Some Stopped) = Unit {0}
StaysFree s k (Some Count) = Unit {0}
StaysFree s k (Some Busy) = ⊥
