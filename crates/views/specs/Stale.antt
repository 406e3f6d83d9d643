-- Pointstamps that a worker still sees because their removals wait for it.
use Rattle.std.specs.Prelude.{◌≡◌, ℕ, ◌-◌, ◌<◌, Bool, true, List, length, Some, slice_get}
use Rattle.semantics.specs.Multiset.{total}
use Rattle.semantics.specs.Graph.{Graph}
use Rattle.semantics.specs.Could.{Pointstamp, CouldResultIn}
use Rattle.machine.specs.Active.{sum_below}
use Rattle.views.specs.Queued.{Queued, AllKnown}
use Rattle.views.specs.WorkerViews.{waiting_of}

-- how often the changes that wait for a worker add a pointstamp, over all senders
abbrev pub adds_for : List Queued → (worker : ℕ) → Pointstamp → ℕ
adds_for queues w q = sum_below (length queues) (λ s. total (λ b. b.adds q) (waiting_of queues w s))

-- how often they remove it
abbrev pub removes_for : List Queued → (worker : ℕ) → Pointstamp → ℕ
removes_for queues w q = sum_below (length queues) (λ s. total (λ b. b.removes q) (waiting_of queues w s))

-- by how much the removals outnumber the additions
abbrev pub stale_count : List Queued → (worker : ℕ) → Pointstamp → ℕ
stale_count queues w q = removes_for queues w q - adds_for queues w q

-- q doesn't block p: it isn't among these, or could not result in p or, if `other`, is p itself
abbrev pub LetsThrough : Graph → (content : Pointstamp → ℕ) → (p : Pointstamp) → (other : Bool) → (q : Pointstamp) → Type 0
LetsThrough g content p other q = 0 < content q → (other ≡ true → q ≡ p → ⊥) → CouldResultIn g q p → ⊥

-- each queue's pointstamps are of the graph
abbrev pub AreKnown : Graph → List Queued → Type 0
AreKnown g queues = (s : ℕ) (q : Queued) → slice_get queues s ≡ Some q → AllKnown g q.changes
