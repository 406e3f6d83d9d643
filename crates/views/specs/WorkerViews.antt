-- Views that may be late: a tracker of what is active, and each sender's queue.
use Rattle.std.specs.Prelude.{◌≡◌, ℕ, zero, suc, ◌*◌, ◌≤◌, ◌<◌, List, [], ◌∷◌, length, Some, slice_get}
use Rattle.semantics.specs.Limits.{max_workers}
use Rattle.semantics.specs.Graph.{Graph}
use Rattle.semantics.specs.Could.{Pointstamp, IsTimeAt}
use Rattle.progress.specs.Content.{times_at}
use Rattle.progress.specs.Shown.{Located}
use Rattle.views.specs.Waiting.{Waiting, IsHistory}
use Rattle.views.specs.Queued.{Queued, untaken, batches_of, AllKnown, IsSameQueue}
use Rattle.views.specs.declared.queue.Change.{Change}

pub record WorkerViews : Type 0 where
  pub tracker : Located
  pub workers : ℕ
  pub queues : List Queued
  pub spare : ℕ

-- what is active
abbrev pub content_of : Located → Pointstamp → ℕ
content_of tracker = times_at tracker.edges tracker.vertices

-- what a worker hasn't taken of a sender's changes
abbrev pub untaken_at : List Queued → (sender worker : ℕ) → List Change
untaken_at [] s w = []
untaken_at (q ∷ queues) zero w = untaken q w
untaken_at (q ∷ queues) (suc s) w = untaken_at queues s w

abbrev pub waiting_of : List Queued → Waiting
waiting_of queues w s = batches_of s (untaken_at queues s w)

-- a sender's queue fits
pub record IsSender (g : Graph) (workers spare : ℕ) (q : Queued) : Type 0 where
  pub taken : length q.taken ≡ workers
  pub known : AllKnown g q.changes
  pub free : 2 * spare ≤ q.free

-- all queues fit: for each worker some history leads to what waits, and there is room for what may be posted
pub record AreViews (g : Graph) (content : Pointstamp → ℕ) (workers : ℕ) (queues : List Queued) (spare : ℕ) : Type 0 where
  pub some : 0 < workers
  pub few : workers ≤ max_workers
  pub senders : length queues ≡ suc workers
  pub known : (q : Pointstamp) → 0 < content q → IsTimeAt g q.location q.time
  pub history : (w : ℕ) → w < workers → IsHistory g workers content (waiting_of queues) w
  pub sender : (s : ℕ) (q : Queued) → slice_get queues s ≡ Some q → IsSender g workers spare q

-- the queues are the same, except for their room
pub record AreSameQueues (old new : List Queued) : Type 0 where
  pub long : length new ≡ length old
  pub each : (s : ℕ) (q q' : Queued) → slice_get old s ≡ Some q → slice_get new s ≡ Some q' → IsSameQueue q q'

-- each queue has room for that much
abbrev pub AllFree : List Queued → (count : ℕ) → Type 0
AllFree queues n = (s : ℕ) (q : Queued) → slice_get queues s ≡ Some q → n ≤ q.free

-- each queue has a place for each of that many workers
abbrev pub AllTaken : List Queued → (workers : ℕ) → Type 0
AllTaken queues n = (s : ℕ) (q : Queued) → slice_get queues s ≡ Some q → length q.taken ≡ n

-- the worker has a place in each queue
abbrev pub HasPlaces : List Queued → (worker : ℕ) → Type 0
HasPlaces queues w = (s : ℕ) (q : Queued) → slice_get queues s ≡ Some q → w < length q.taken
