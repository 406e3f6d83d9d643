-- A worker that did some of its events.
use Rattle.std.specs.Prelude.{ℕ, List, Option}
use Rattle.semantics.specs.Multiset.{Record}
use Rattle.machine.specs.Step.{Step}
use Rattle.events.specs.Jobs.{Pass}
use Rattle.board.specs.Answers.{Gathers, Hands}
use Rattle.board.specs.Kept.{Goes}
use Rattle.board.specs.Shown.{Shown}
use Rattle.driver.specs.declared.ended.Ended.{Ended}
use Rattle.alone.specs.Rests.{IsFree, StaysFree}
use Rattle.alone.specs.declared.working.Worked.{Worked}
use Rattle.alone.specs.declared.working.Worked.TheVariants.{Partly, Off}

-- messages of the worker are merged, and an event of it is handed out and committed
abbrev pub DoesOne : Shown → (worker : ℕ) → Shown → Type 0
DoesOne s k v = (u : Shown) × (t : Shown) × (p : Pass) × (out : ℕ → List Record) × Gathers s k u × Hands u k t p × Goes t (Step.commit p.worker p.job.happening out) v

-- it holds of the end, where the worker came to one
abbrev pub IfOff : Worked → (Option Ended → Type 0) → Type 0
IfOff Partly P = Unit {0}
IfOff (Off end) P = P end

-- it holds where the worker may have more to do
abbrev pub IfPartly : Worked → Type 0 → Type 0
IfPartly Partly P = P
IfPartly (Off end) P = Unit {0}

-- the worker is free again, unless an event of it was abandoned
abbrev pub StaysFreeThen : Shown → (worker : ℕ) → Worked → Type 0
StaysFreeThen s k Partly = IsFree s k
StaysFreeThen s k (Off end) = StaysFree s k end
