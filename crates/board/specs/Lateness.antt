-- What a board shows, how late its workers' views of the active pointstamps are, and what the first worker calls passed.
use Rattle.std.specs.Prelude.{◌≡◌, ◌⊎◌, ◌+◌, ◌<◌, ◌≤◌, ℕ, zero, suc, ◌==◌, Bool, true, false, cond, List, [], ◌∷◌, length, slice_index_or}
use Rattle.semantics.specs.Multiset.{total}
use Rattle.semantics.specs.Could.{NoneOf, Pointstamp, at_vertex}
use Rattle.semantics.specs.Graph.{output_number}
use Rattle.semantics.specs.Time.{at_epoch}
use Rattle.graph.specs.Shown.{shown_graph}
use Rattle.machine.specs.Active.{active_count}
use Rattle.machine.specs.World.{World}
use Rattle.views.specs.Waiting.{IsSeenBy, Posted, Waiting, batches_as}
use Rattle.board.specs.Showing.{Shows}
use Rattle.board.specs.Shown.{Shown, net}

-- `waits` has how many batches of changes wait for each worker, by sender; the senders are the workers, and then the feeder. `behind` has those that
-- wait for the first worker, by sender, the oldest first. `passed` is the number of epochs known to have passed.
pub record BoardShown : Type 0 where
  pub shown : Shown
  pub waits : List (List ℕ)
  pub behind : List (List Posted)
  pub passed : ℕ

-- the first n values of f
abbrev pub first_of : {A : Type 0} → (n : ℕ) → (ℕ → A) → List A
first_of zero f = []
first_of (suc n) f = f 0 ∷ first_of n (λ k. f (suc k))

-- how many batches wait, by worker and sender
abbrev pub counts_of : (workers : ℕ) → Waiting → List (List ℕ)
counts_of workers waiting = first_of workers (λ w. first_of (suc workers) (λ s. length (waiting w s)))

-- how many batches of a sender wait for a worker; none if there is no such worker or sender
abbrev pub waits_for : BoardShown → (worker sender : ℕ) → ℕ
waits_for b w s = slice_index_or (slice_index_or b.waits w []) s 0

-- nothing waits for the worker
abbrev pub IsUpToDate : BoardShown → (worker : ℕ) → Type 0
IsUpToDate b w = (s : ℕ) → waits_for b w s ≡ 0

-- nothing waits for anyone
abbrev pub AreUpToDate : BoardShown → Type 0
AreUpToDate b = (w : ℕ) → IsUpToDate b w

-- how many batches wait, over all workers and senders
abbrev pub all_waits : BoardShown → ℕ
all_waits b = total (λ ns. total (λ n. n) ns) b.waits

-- what waits for the first worker
abbrev pub waits_first : BoardShown → Waiting
waits_first b worker s = batches_as s (slice_index_or b.behind s [])

-- the first worker sees the pointstamp in a world that the board shows
abbrev pub SeesFirst : BoardShown → World → Pointstamp → Type 0
SeesFirst b w = IsSeenBy (active_count (net b.shown) w) (waits_first b) (length b.shown.sides) 0

-- The first worker calls the epoch passed at an output: no pointstamp that it sees could result there for it.
abbrev pub CallsPassed : BoardShown → (output epoch : ℕ) → Type 0
CallsPassed b k e = (w : World) → Shows b.shown w → NoneOf (net b.shown).Could (SeesFirst b w) (at_vertex (output_number (shown_graph b.shown.graph) k) (at_epoch e))

-- what was called passed still is
abbrev pub KeepsCalled : (old new : BoardShown) → Type 0
KeepsCalled old new = (output epoch : ℕ) → CallsPassed old output epoch → CallsPassed new output epoch

-- what a post adds to the number that waits, where views are late
abbrev pub one_more : (late : Bool) → (by sender : ℕ) → ℕ
one_more late by s = cond late (cond (s == by) 1 0) 0

-- a batch of a sender was posted
pub record Posts (late : Bool) (by : ℕ) (old new : BoardShown) : Type 0 where
  pub waits : (w s : ℕ) → w < length old.shown.sides → s < suc (length old.shown.sides) → waits_for new w s ≡ waits_for old w s + one_more late by s
  pub called : KeepsCalled old new

-- a batch was posted if something was delivered, and none otherwise
abbrev pub PostsSome : (late : Bool) → (by : ℕ) → (old new : BoardShown) → Type 0
PostsSome late by old new = Posts late by old new ⊎ ((new.shown.sides ≡ old.shown.sides) × (new.waits ≡ old.waits) × KeepsCalled old new)

-- nothing was posted or applied
pub record IsAsLate (old new : BoardShown) : Type 0 where
  pub waits : new.waits ≡ old.waits
  pub behind : new.behind ≡ old.behind
  pub passed : new.passed ≡ old.passed
  pub called : KeepsCalled old new

-- what waits for other workers still waits, and what waits for this one doesn't grow
pub record Applies (worker : ℕ) (old new : BoardShown) : Type 0 where
  pub others : (w s : ℕ) → (w ≡ worker → ⊥) → waits_for new w s ≡ waits_for old w s
  pub fewer : (s : ℕ) → waits_for new worker s ≤ waits_for old worker s
  pub passed : old.passed ≤ new.passed
  pub called : KeepsCalled old new

-- a batch of the sender was applied; or none waited, and nothing changed
abbrev pub AppliesOne : (worker sender : ℕ) → (old new : BoardShown) → Bool → Type 0
AppliesOne w s old new true = waits_for old w s ≡ suc (waits_for new w s)
AppliesOne w s old new false = (waits_for old w s ≡ 0) × (new ≡ old)
