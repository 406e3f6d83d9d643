-- Steps that work off what is there, and worlds in which none is left.
use Rattle.std.specs.Prelude.{◌≡◌, ◌⊎◌, ℕ, ◌<◌, true, List, [], ◌∷◌}
use Rattle.machine.specs.Network.{Network}
use Rattle.machine.specs.World.{World}
use Rattle.machine.specs.Step.{Step, Allowed}

-- the step is a worker's: no feed, seal or close
abbrev pub IsWork : Step → Type 0
IsWork (Step.feed i records) = ⊥
IsWork (Step.seal i) = ⊥
IsWork (Step.close i) = ⊥
IsWork (Step.claim_message k at m) = Unit {0}
IsWork (Step.claim_request k at n) = Unit {0}
IsWork (Step.merge k at m n) = Unit {0}
IsWork (Step.commit k event out) = Unit {0}
IsWork (Step.abandon k event) = Unit {0}

-- each step is a worker's
abbrev pub AreWork : List Step → Type 0
AreWork [] = Unit {0}
AreWork (step ∷ steps) = IsWork step × AreWork steps

-- 1 for a step of a worker
abbrev pub one_if_work : Step → ℕ
one_if_work (Step.feed i records) = 0
one_if_work (Step.seal i) = 0
one_if_work (Step.close i) = 0
one_if_work (Step.claim_message k at m) = 1
one_if_work (Step.claim_request k at n) = 1
one_if_work (Step.merge k at m n) = 1
one_if_work (Step.commit k event out) = 1
one_if_work (Step.abandon k event) = 1

-- 1 for a feed
abbrev pub one_if_feed : Step → ℕ
one_if_feed (Step.feed i records) = 1
one_if_feed (Step.seal i) = 0
one_if_feed (Step.close i) = 0
one_if_feed (Step.claim_message k at m) = 0
one_if_feed (Step.claim_request k at n) = 0
one_if_feed (Step.merge k at m n) = 0
one_if_feed (Step.commit k event out) = 0
one_if_feed (Step.abandon k event) = 0

-- no worker may take any step
abbrev pub IsIdle : Network → World → Type 0
IsIdle g w = (step : Step) → IsWork step → Allowed g w step → ⊥

-- the input is closed, or the epoch is sealed at it
abbrev pub IsOver : World → (input epoch : ℕ) → Type 0
IsOver w i n = (w.closed i ≡ true) ⊎ (n < w.open_epoch i)
