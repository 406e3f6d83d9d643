-- What a pick answers.
use Rattle.std.specs.Prelude.{◌≡◌, ◌≢◌, ◌<◌, ◌⊎◌, ℕ, true, false, length, None, Option, Result, Ok, Err}
use Rattle.machine.specs.Choices.{Chooses}
use Rattle.machine.specs.Step.{Step}
use Rattle.machine.specs.World.{World}
use Rattle.tokens.specs.declared.rule.Place.TheVariants.{Home}
use Rattle.events.specs.Jobs.{Pass}
use Rattle.rows.specs.declared.fault.WorkFault.{WorkFault}
use Rattle.board.specs.Answers.{Hands}
use Rattle.board.specs.Shown.{Shown, net, side_at}
use Rattle.board.specs.Showing.{Shows}
use Rattle.board.specs.declared.refusal.StepRefusal.{StepRefusal}
use Rattle.board.specs.declared.refusal.StepRefusal.TheVariants.{Stopped, HoldsEvent, NoSuchEvent, UnknownInput}
use Rattle.board.specs.declared.refusal.StepRefusal.TheVariants.{InputClosed, WrongFieldCount, LastEpoch, NoMemory}

-- the step claims the worker's choice of that number, in any world that the board shows
abbrev pub IsChoice : Shown → (worker choice : ℕ) → Step → Type 0
IsChoice s k n step = (w : World) → Shows s w → Chooses (net s) w k n step

-- the worker has no choice of that number
abbrev pub LacksChoice : Shown → (worker choice : ℕ) → Type 0
LacksChoice s k n = (w : World) (step : Step) → Shows s w → Chooses (net s) w k n step → ⊥

-- Which choice has that number is known for sure: it is a message, for which no view counts; or the worker's view is up to date, as `prompt` says.
abbrev pub IsCertain : (prompt : Type 0) → Shown → (worker choice : ℕ) → Type 0
IsCertain prompt s k n = (n < length (side_at s k).mail) ⊎ prompt

-- why a pick is refused: the board is stopped; the worker holds an event; or there is no such worker or no such choice
abbrev pub RefusesPick : (prompt : Type 0) → Shown → (worker choice : ℕ) → StepRefusal → Type 0
RefusesPick prompt s k n Stopped = s.stopped ≡ true
RefusesPick prompt s k n HoldsEvent = (s.stopped ≡ false) × (k < length s.sides) × ((side_at s k).place ≢ Home)
RefusesPick prompt s k n NoSuchEvent = (s.stopped ≡ false) × (k < length s.sides → ((side_at s k).place ≡ Home) × (IsCertain prompt s k n → LacksChoice s k n))
RefusesPick prompt s k n UnknownInput = ⊥
RefusesPick prompt s k n InputClosed = ⊥
RefusesPick prompt s k n WrongFieldCount = ⊥
RefusesPick prompt s k n LastEpoch = ⊥
RefusesPick prompt s k n NoMemory = ⊥

-- A pick hands out an unspoiled event by a step, which is that of the choice where that is known; or it is refused, and nothing changes.
abbrev pub Picks : (prompt : Type 0) → Shown → Shown → (worker choice : ℕ) → Result (Pass × Option WorkFault) StepRefusal → Type 0
Picks prompt s t k n (Ok x) = (hands : Hands s k t x.0) × (IsCertain prompt s k n → IsChoice s k n hands.taken) × (x.1 ≡ None)
Picks prompt s t k n (Err e) = RefusesPick prompt s k n e × (t ≡ s)
