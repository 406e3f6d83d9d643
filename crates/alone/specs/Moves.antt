-- Steps of workers.
use Rattle.std.specs.Prelude.{◌≡◌, ℕ, zero, suc}
use Rattle.machine.specs.Step.{Step}
use Rattle.ending.specs.Ending.{IsWork}
use Rattle.board.specs.Kept.{Goes}
use Rattle.board.specs.Shown.{Shown}

-- a worker takes a step
abbrev pub TakesStep : Shown → Shown → Type 0
TakesStep s t = (step : Step) × IsWork step × Goes s step t

-- that many steps of workers lead from a state to another
abbrev pub LeadsBy : ℕ → Shown → Shown → Type 0
LeadsBy zero s t = t ≡ s
LeadsBy (suc n) s t = (u : Shown) × LeadsBy n s u × TakesStep u t

-- some steps of workers do, or none
abbrev pub Moves : Shown → Shown → Type 0
Moves s t = (n : ℕ) × LeadsBy n s t

-- at least one does
abbrev pub Advances : Shown → Shown → Type 0
Advances s t = (n : ℕ) × LeadsBy (suc n) s t
