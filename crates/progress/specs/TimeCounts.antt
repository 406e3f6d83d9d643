-- Times with counts, as a search tree keeps them.
use Rattle.std.specs.Prelude.{◌≡◌, ℕ, ◌+◌, ◌≤◌, ◌<◌, Bool, true, cond, List, [], ◌∷◌, ◌++◌, Option, Some, None}
use Rattle.semantics.specs.Multiset.{total}
use Rattle.semantics.specs.Time.{Time, same_time}
use Rattle.progress.specs.Times.{key_of, NoLater}

-- a time, and its number of occurrences in an entry
abbrev pub CountedTime : Type 0
CountedTime = Time × ℕ

abbrev pub counted_time : Time → ℕ → CountedTime
counted_time t n = (t, n)

-- the entries, the top one first
abbrev pub TimeCounts : Type 0
TimeCounts = List CountedTime

-- n if the times are equal, and otherwise 0
abbrev pub if_same : Time → Time → ℕ → ℕ
if_same t u n = cond (same_time t u) n 0

-- how often a time occurs
abbrev pub count : TimeCounts → Time → ℕ
count bag u = total (λ h. if_same u h.0 h.1) bag

-- the entry on top
abbrev pub top : TimeCounts → Option CountedTime
top [] = None
top (h ∷ bag) = Some h

-- n occurrences of t on top of two bags
abbrev pub with_times : TimeCounts → Time → ℕ → TimeCounts → TimeCounts
with_times left t n right = counted_time t n ∷ (left ++ right)

-- A fork: its own time occurs, and has no later counters than those below; keys on the left are below the split, and keys on the right are not.
pub record IsFork (left : TimeCounts) (t : Time) (n split : ℕ) (right : TimeCounts) : Type 0 where
  pub some : 0 < n
  pub least_left : (u : Time) → 0 < count left u → NoLater t u
  pub least_right : (u : Time) → 0 < count right u → NoLater t u
  pub below : (u : Time) → 0 < count left u → key_of u < split
  pub above : (u : Time) → 0 < count right u → split ≤ key_of u

-- each time occurs as often as before, and t n times more
abbrev pub Adds : TimeCounts → TimeCounts → Time → ℕ → Type 0
Adds old new t n = (u : Time) → count new u ≡ if_same u t n + count old u

-- no time occurs
abbrev pub IsNone : TimeCounts → Type 0
IsNone bag = (u : Time) → count bag u ≡ 0

-- no time in the bag has counters before those of t
abbrev pub IsFirst : Time → TimeCounts → Type 0
IsFirst t bag = (u : Time) → 0 < count bag u → NoLater t u

-- the time counts for a question: it is in no later epoch than `until` and, if `other`, is different from it
pub record IsAsked (until : Time) (other : Bool) (t : Time) : Type 0 where
  pub epochs : t.epoch ≤ until.epoch
  pub differs : other ≡ true → t ≡ until → ⊥

-- t occurs and counts, and no time that counts has counters before those of t
pub record IsLeast (bag : TimeCounts) (until : Time) (other : Bool) (t : Time) : Type 0 where
  pub there : 0 < count bag t
  pub asked : IsAsked until other t
  pub least : (u : Time) → 0 < count bag u → IsAsked until other u → NoLater t u

-- no time in the bag counts
abbrev pub IsNoneAsked : TimeCounts → (until : Time) → (other : Bool) → Type 0
IsNoneAsked bag until other = (u : Time) → 0 < count bag u → IsAsked until other u → ⊥
