-- Times: an epoch, and a counter for each loop around, outermost first; what vertices do to times; and the order of times. (Naiad, SOSP 2013, section
-- 2.1: timestamps, and the ingress, egress and feedback vertices.)
use Rattle.std.specs.Prelude.{◌≡◌, ◌⊎◌, ℕ, zero, suc, ◌-◌, ◌≤◌, ◌<◌, nat_lt, nat_eq, Bool, true, false, cond, ◌&&◌, ◌||◌, List, [], ◌∷◌, ◌++◌, map, length}
use Rattle.std.specs.Cmp.Lexicographic.{pointwise}
use Rattle.semantics.specs.Limits.{max_turns}

-- an epoch of the inputs, and the turn of each loop around
pub record Time : Type 0 where
  pub epoch : ℕ
  pub counters : List ℕ

-- the last of c and those after it
abbrev pub last_from : ℕ → List ℕ → ℕ
last_from c [] = c
last_from c (d ∷ ds) = last_from d ds

-- c and those after it, without the last
abbrev pub front_from : ℕ → List ℕ → List ℕ
front_from c [] = []
front_from c (d ∷ ds) = c ∷ front_from d ds

-- the last counter; 0 if there is none
abbrev pub last : List ℕ → ℕ
last cs = last_from 0 cs

-- all but the last
abbrev pub front : List ℕ → List ℕ
front [] = []
front (c ∷ cs) = front_from c cs

-- a time with one more counter
abbrev pub deeper : Time → ℕ → Time
deeper t c = record { epoch = t.epoch; counters = t.counters ++ (c ∷ []) }

-- a time without its last counter
abbrev pub outer : Time → Time
outer t = record { epoch = t.epoch; counters = front t.counters }

-- what a vertex does to times: nothing, into a loop, out of it, or to its next turn
pub data Action : Type 0 where
  stay enter leave next : Action

-- the time after an action
abbrev pub after_action : Action → Time → Time
after_action Action.stay t = t
after_action Action.enter t = deeper t 0
after_action Action.leave t = outer t
after_action Action.next t = deeper (outer t) (suc (last t.counters))

-- the number of values that a counter can have at an egress: from 0 to the limit of turns
unfoldable pub turn_count : ℕ
turn_count = suc max_turns

-- the first turn of the innermost loop: the last counter is 0; false if there is no counter
abbrev pub in_first_turn : List ℕ → Bool
in_first_turn [] = false
in_first_turn (c ∷ cs) = nat_eq (last_from c cs) 0

-- the numbers below n
abbrev pub below : ℕ → List ℕ
below zero = []
below (suc n) = below n ++ (n ∷ [])

-- the earlier turns of the innermost loop: the same time with each smaller last counter
abbrev pub earlier_turns : Time → List Time
earlier_turns t = map (deeper (outer t)) (below (last t.counters))

-- the times that an action takes to u; for a leave, those whose last counter is at most the limit of turns
abbrev pub times_before : Action → Time → List Time
times_before Action.stay u = u ∷ []
times_before Action.enter u = cond (in_first_turn u.counters) (outer u ∷ []) []
times_before Action.leave u = map (deeper u) (below turn_count)
times_before Action.next u = cond (nat_lt 0 (last u.counters)) (deeper (outer u) (last u.counters - 1) ∷ []) []

-- the times that an action applies to: a leave and a next need a counter, which for a leave is at most the limit of turns
abbrev pub IsTaken : Action → Time → Type 0
IsTaken Action.stay t = Unit {0}
IsTaken Action.enter t = Unit {0}
IsTaken Action.leave t = (0 < length t.counters) × (last t.counters < turn_count)
IsTaken Action.next t = 0 < length t.counters

-- the counters are equal
abbrev pub same_counters : List ℕ → List ℕ → Bool
same_counters cs ds = pointwise nat_eq cs ds

-- the times are equal
abbrev pub same_time : Time → Time → Bool
same_time t u = nat_eq t.epoch u.epoch && same_counters t.counters u.counters

-- the time of an epoch, outside all loops
abbrev pub at_epoch : ℕ → Time
at_epoch n = record { epoch = n; counters = [] }

-- xs comes before ys, lexicographically
abbrev pub is_before : List ℕ → List ℕ → Bool
is_before [] [] = false
is_before [] (y ∷ ys) = true
is_before (x ∷ xs) [] = false
is_before (x ∷ xs) (y ∷ ys) = nat_lt x y || (nat_eq x y && is_before xs ys)

-- the epochs are in order, and the counters lexicographically
pub record IsAtMost (t u : Time) : Type 0 where
  pub epochs : t.epoch ≤ u.epoch
  pub counters : (t.counters ≡ u.counters) ⊎ (is_before t.counters u.counters ≡ true)
