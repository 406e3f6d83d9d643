-- No wakeup is lost.
use Rattle.std.specs.Prelude.{◌≡◌, ◌⊎◌, ℕ, true, Result, Ok, Err}
use Rattle.board.specs.Answers.{HasNoChoice}
use Rattle.board.specs.Promises.{IsDrained}
use Rattle.board.specs.Shown.{Shown}
use Rattle.board.specs.declared.claimed.Claimed.{Claimed}
use Rattle.board.specs.declared.claimed.Claimed.TheVariants.{Stopped, Busy, Work, Drained, Idle}
use Rattle.workers.specs.Sleeping.{Leaves, Sleeps, Takes, Wakes}
use Rattle.workers.specs.ThreadSets.{IsEmpty, IsIn}
use Rattle.workers.specs.declared.scheduler.Scheduler.{Scheduler}
use Rattle.workers.specs.declared.scheduler.Choice.{Choice}
use Rattle.workers.specs.declared.scheduler.Choice.TheVariants.{These, All, First, Next}
use Rattle.workers.specs.declared.thread_set.ThreadSet.{ThreadSet}

-- the board is stopped, or nothing is left to do
abbrev pub IsAtEnd : Shown → Type 0
IsAtEnd s = (s.stopped ≡ true) ⊎ IsDrained s

-- While nobody is up, nobody who is asleep has an event that its worker could claim. At the board's end nobody is asleep.
pub record LosesNoWakeup (x : Scheduler) (s : Shown) : Type 0 where
  pub rest : IsEmpty x.up → (n : ℕ) → IsIn x.asleep n → HasNoChoice s n
  pub ended : IsAtEnd s → IsEmpty x.asleep

-- the threads that are chosen: these; all of these that can claim; or the first of these that can, if there is one
abbrev pub AreChosen : Shown → Choice → ThreadSet → Type 0
AreChosen s (These threads) set = set ≡ threads
AreChosen s (All threads) set = (n : ℕ) → IsIn threads n → IsIn set n ⊎ HasNoChoice s n
AreChosen s (First threads) set = ((n : ℕ) × IsIn set n × IsIn threads n) ⊎ ((n : ℕ) → IsIn threads n → HasNoChoice s n)
AreChosen s (Next threads) set = Unit {0}

-- a thread that was handed an event is up; otherwise the threads are as before
abbrev pub TakesWork : Scheduler → Scheduler → (thread : ℕ) → Claimed → Type 0
TakesWork x y t Stopped = y ≡ x
TakesWork x y t Busy = y ≡ x
TakesWork x y t (Work event) = Takes x y t
TakesWork x y t Drained = y ≡ x
TakesWork x y t Idle = y ≡ x

-- the thread asks for an event
abbrev pub Asks : Scheduler → Scheduler → (thread : ℕ) → Claimed → Type 0
Asks x y t claimed = (z : Scheduler) × Leaves x z t × TakesWork z y t claimed

-- a thread that finds nothing to do falls asleep
abbrev pub Rests : Scheduler → Scheduler → (thread : ℕ) → Claimed → Type 0
Rests x y t Stopped = y ≡ x
Rests x y t Busy = y ≡ x
Rests x y t (Work event) = y ≡ x
Rests x y t Drained = y ≡ x
Rests x y t Idle = Sleeps x y t

-- a thread whose event has ended asks for the next one; without one it is gone
abbrev pub Settles : Scheduler → Scheduler → (thread : ℕ) → {E : Type 0} → Result Claimed E → Type 0
Settles x y t (Ok claimed) = Asks x y t claimed
Settles x y t (Err _) = Leaves x y t

-- a thread asks for an event, without one it falls asleep, and then threads are woken
abbrev pub RestsAndWakes : Scheduler → Scheduler → (thread : ℕ) → Claimed → (woken : ThreadSet) → Type 0
RestsAndWakes x y t claimed woken = (u : Scheduler) × (v : Scheduler) × Asks x u t claimed × Rests u v t claimed × Wakes v y woken

-- an event of a thread ends, and then threads are woken
abbrev pub SettlesAndWakes : Scheduler → Scheduler → (thread : ℕ) → {E : Type 0} → Result Claimed E → (woken : ThreadSet) → Type 0
SettlesAndWakes x y t result woken = (z : Scheduler) × Settles x z t result × Wakes z y woken
