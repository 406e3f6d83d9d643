-- What a worker sees: what is active, without the batches of changes that wait for it.
use Rattle.std.specs.Prelude.{◌≡◌, ℕ, suc, ◌+◌, ◌<◌, ◌==◌, Bool, true, false, cond, List, [], ◌∷◌, ◌++◌, length}
use Rattle.semantics.specs.Multiset.{total}
use Rattle.semantics.specs.Could.{Pointstamp, CouldResultIn}
use Rattle.machine.specs.Active.{sum_below}
use Rattle.semantics.specs.Graph.{Graph, input_count}
use Rattle.machine.specs.Views.{Changes, InOrder, all_adds, all_removes, seen_adds, seen_removes}
use Rattle.machine.specs.Posting.{ArePosted}
use Rattle.progress.specs.Content.{times_in}

-- one step's changes, by lists of what is added and removed
abbrev pub batch : (sender : ℕ) → (added removed : List Pointstamp) → Changes
batch sender added removed = record { sender = sender; adds = times_in added; removes = times_in removed; applied = false }

-- a batch, by what it adds and what it removes
abbrev pub Posted : Type 0
Posted = List Pointstamp × List Pointstamp

-- batches of one sender
abbrev pub batches_as : (sender : ℕ) → List Posted → List Changes
batches_as s [] = []
batches_as s (p ∷ posted) = batch s p.0 p.1 ∷ batches_as s posted

-- the batches of each sender that a worker hasn't applied, the oldest first
abbrev pub Waiting : Type 0
Waiting = (worker sender : ℕ) → List Changes

-- how often the changes that wait for a worker add a pointstamp; the senders are the workers and the feeder
abbrev pub waiting_adds : Waiting → (workers worker : ℕ) → Pointstamp → ℕ
waiting_adds waiting workers worker q = sum_below (suc workers) (λ s. total (λ b. b.adds q) (waiting worker s))

-- how often the changes that wait for a worker remove it
abbrev pub waiting_removes : Waiting → (workers worker : ℕ) → Pointstamp → ℕ
waiting_removes waiting workers worker q = sum_below (suc workers) (λ s. total (λ b. b.removes q) (waiting worker s))

-- the worker sees the pointstamp: its count without what waits for the worker is above 0; a negative count means that it isn't seen
abbrev pub IsSeenBy : (content : Pointstamp → ℕ) → Waiting → (workers worker : ℕ) → Pointstamp → Type 0
IsSeenBy content waiting workers worker q = waiting_adds waiting workers worker q < content q + waiting_removes waiting workers worker q

-- what waits once a batch is posted: it waits for every worker or, if the views aren't late, for none
abbrev pub after_post : (late : Bool) → Waiting → Changes → Waiting
after_post false waiting b worker sender = waiting worker sender
after_post true waiting b worker sender = cond (sender == b.sender) (waiting worker sender ++ (b ∷ [])) (waiting worker sender)

-- nothing waits for the worker
abbrev pub NoneWaits : Waiting → (workers worker : ℕ) → Type 0
NoneWaits waiting workers worker = (s : ℕ) → s < suc workers → waiting worker s ≡ []

-- a batch of some sender waits for the worker
abbrev pub SomeWait : Waiting → (workers worker : ℕ) → Type 0
SomeWait waiting workers worker = (s : ℕ) × (s < suc workers) × (waiting worker s ≡ [] → ⊥)

-- how many batches wait, over all workers and senders
abbrev pub all_waiting : Waiting → (workers : ℕ) → ℕ
all_waiting waiting workers = sum_below workers (λ w. sum_below (suc workers) (λ s. length (waiting w s)))

-- the sender's next batch doesn't wait for the worker any more; if none waited, nothing changed
pub data IsApplied (worker sender : ℕ) (old new : Waiting) : Bool → Type 0 where
  took : (b : Changes) → old worker sender ≡ b ∷ new worker sender → IsApplied worker sender old new true
  none : old worker sender ≡ [] → new worker sender ≡ [] → IsApplied worker sender old new false

-- ---- histories: all batches that were posted, the oldest first, and which of them a worker has applied

-- the sender's batches that the worker hasn't applied
abbrev pub pending : (sender : ℕ) → List Changes → List Changes
pending s [] = []
pending s (b ∷ log) = cond b.applied (pending s log) (cond (s == b.sender) (b ∷ pending s log) (pending s log))

-- some history leads to the content and to what waits for the worker
pub record IsHistory (g : Graph) (workers : ℕ) (content : Pointstamp → ℕ) (waiting : Waiting) (worker : ℕ) : Type 0 where
  pub first : Pointstamp → ℕ
  pub log : List Changes
  pub posted : ArePosted (CouldResultIn g) (input_count g) workers first log
  pub order : InOrder log
  pub seen : (q : Pointstamp) → seen_removes log q + (content q + waiting_removes waiting workers worker q)
      ≡ seen_adds first log q + waiting_adds waiting workers worker q
  pub there : (q : Pointstamp) → all_removes log q + content q ≡ all_adds first log q
  pub waits_for : (s : ℕ) → s < suc workers → pending s log ≡ waiting worker s
