-- What waits for the workers: the batches of changes that were posted, and that a worker hasn't applied to its view yet. And what was said to have passed.
use Rattle.std.specs.Prelude.{◌≡◌, ◌≤◌, ◌+◌, ◌==◌, ℕ, Bool, true, false, cond}
use Rattle.machine.specs.World.{World, opening}
use Rattle.machine.specs.Step.{put}
use Rattle.schedule.specs.declared.verb.ViewKind.{ViewKind}
use Rattle.schedule.specs.declared.verb.ViewKind.TheVariants.{Shared, Local}

-- how many batches wait for a worker, by sender; the senders are the workers and, by the number of workers, the feeder
abbrev pub Waits : Type 0
Waits = (worker sender : ℕ) → ℕ

-- which epochs were said to have passed, by output
abbrev pub Told : Type 0
Told = (output epoch : ℕ) → Bool

-- what was said to have passed still is
abbrev pub TellsMore : (old new : Told) → Type 0
TellsMore old new = (output epoch : ℕ) → old output epoch ≡ true → new output epoch ≡ true

-- the state from which a line goes on: the engine's world, what waits, and what was said to have passed
pub record State : Type 0 where
  pub world : World
  pub waits : Waits
  pub told : Told

-- the state in which a schedule begins: the engine's opening world; nothing waits, and nothing was said
abbrev pub at_first : State
at_first = record { world = opening; waits = λ worker sender. 0; told = λ output epoch. false }

-- views that may be late are the workers' own
abbrev pub kind_of : (late : Bool) → ViewKind
kind_of false = Shared
kind_of true = Local

-- the worker sees everything that was posted: no batch of any worker or the feeder waits for it; with one shared view, every worker does
abbrev pub SeesAll : ViewKind → (workers : ℕ) → Waits → (worker : ℕ) → Type 0
SeesAll Shared n waits worker = Unit {0}
SeesAll Local n waits worker = (sender : ℕ) → sender ≤ n → waits worker sender ≡ 0

-- what a batch adds to what waits from a sender: one from the sender that posts it, if each worker has its own view
abbrev pub added : ViewKind → (by sender : ℕ) → ℕ
added Shared by sender = 0
added Local by sender = cond (sender == by) 1 0

-- a batch was posted, to every worker
abbrev pub posted : ViewKind → (by : ℕ) → Waits → Waits
posted kind by waits = λ worker sender. waits worker sender + added kind by sender

-- this many batches of the sender wait for the worker now
abbrev pub waiting_now : Waits → (worker sender number : ℕ) → Waits
waiting_now waits worker sender number = put waits worker (put (waits worker) sender number)
