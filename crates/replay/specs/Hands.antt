-- What a schedule has in hand: for each worker, the event that it took and computed, or nothing.
use Rattle.std.specs.Prelude.{◌≡◌, ◌<◌, ℕ, false, List, length, Option, Some, None, slice_index_or}
use Rattle.machine.specs.World.{World, Event, Held}
use Rattle.events.specs.Jobs.{Pass}
use Rattle.board.specs.Shown.{Shown}
use Rattle.board.specs.Commits.{IsOf}

-- the worker's event in hand
abbrev pub in_hand : List (Option Pass) → (worker : ℕ) → Option Pass
in_hand hand k = slice_index_or hand k None

-- each worker has a place, which is empty or has an event of this board and of this worker
pub record IsHand (s : Shown) (hand : List (Option Pass)) : Type 0 where
  pub places : length hand ≡ length s.sides
  pub own : (k : ℕ) (p : Pass) → in_hand hand k ≡ Some p → IsOf s p × (p.worker ≡ k)

-- in hand is exactly what the workers hold in the world and haven't abandoned
pub record HoldsAll (w : World) (workers : ℕ) (hand : List (Option Pass)) : Type 0 where
  pub there : (k : ℕ) (event : Event) → k < workers → w.held k ≡ Held.holding false event → (p : Pass) × (in_hand hand k ≡ Some p)
  pub held : (k : ℕ) (p : Pass) → k < workers → in_hand hand k ≡ Some p → w.held k ≡ Held.holding false p.job.happening

-- no worker holds anything
abbrev pub HoldsNone : World → (workers : ℕ) → Type 0
HoldsNone w n = (k : ℕ) → k < n → w.held k ≡ Held.nothing
