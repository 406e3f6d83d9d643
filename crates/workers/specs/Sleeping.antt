-- Threads that sleep, and threads that are up.
use Rattle.std.specs.Prelude.{◌≡◌, ◌==◌, ◌%◌, ◌-◌, ℕ, Bool, true, false, cond, max, min}
use Rattle.workers.specs.ThreadSets.{IsEmpty, IsIn, member}
use Rattle.workers.specs.declared.thread_set.ThreadSet.{ThreadSet}
use Rattle.workers.specs.declared.scheduler.Scheduler.{Scheduler}
use Rattle.workers.specs.declared.scheduler.Choice.{Choice}
use Rattle.workers.specs.declared.scheduler.Choice.TheVariants.{These, All, First, Next}

-- the thread is neither asleep nor up; the others are as before
pub record Leaves (x y : Scheduler) (thread : ℕ) : Type 0 where
  pub asleep : (n : ℕ) → member y.asleep n ≡ cond (n == thread % 64) 0 (member x.asleep n)
  pub up : (n : ℕ) → member y.up n ≡ cond (n == thread % 64) 0 (member x.up n)

-- the thread is up; the others are as before
pub record Takes (x y : Scheduler) (thread : ℕ) : Type 0 where
  pub asleep : y.asleep ≡ x.asleep
  pub up : (n : ℕ) → member y.up n ≡ cond (n == thread % 64) 1 (member x.up n)

-- the thread is asleep; the others are as before
pub record Sleeps (x y : Scheduler) (thread : ℕ) : Type 0 where
  pub up : y.up ≡ x.up
  pub asleep : (n : ℕ) → member y.asleep n ≡ cond (n == thread % 64) 1 (member x.asleep n)

-- these threads were asleep, and are woken: now they are up. The others are as before.
pub record Wakes (x y : Scheduler) (these : ThreadSet) : Type 0 where
  pub slept : (n : ℕ) → IsIn these n → IsIn x.asleep n
  pub asleep : (n : ℕ) → member y.asleep n ≡ min (member x.asleep n) (1 - member these n)
  pub up : (n : ℕ) → member y.up n ≡ max (member x.up n) (member these n)

-- At the end all sleepers are chosen. While nobody is up, a sleeper is chosen, or all of them are to be asked.
abbrev pub IsCareful : Scheduler → (at_end : Bool) → Choice → Type 0
IsCareful x true (These set) = set ≡ x.asleep
IsCareful x true (All set) = ⊥
IsCareful x true (First set) = ⊥
IsCareful x true (Next set) = ⊥
IsCareful x false (These set) = (n : ℕ) × IsIn set n × IsIn x.asleep n
IsCareful x false (All set) = set ≡ x.asleep
IsCareful x false (First set) = set ≡ x.asleep
IsCareful x false (Next set) = IsEmpty x.up → ⊥
