-- Sets of threads.
use Rattle.std.specs.Prelude.{◌≡◌, ℕ}
use Rattle.std.specs.Int.{bit_at}
use Rattle.workers.specs.declared.thread_set.ThreadSet.{ThreadSet}

-- 1 if the thread is in the set, 0 if it isn't
abbrev pub member : ThreadSet → (thread : ℕ) → ℕ
member s n = bit_at s.bits n

-- the thread is in the set
abbrev pub IsIn : ThreadSet → (thread : ℕ) → Type 0
IsIn s n = member s n ≡ 1

-- no thread is in the set
abbrev pub IsEmpty : ThreadSet → Type 0
IsEmpty s = (n : ℕ) → IsIn s n → ⊥
