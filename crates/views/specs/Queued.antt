-- A sender's changes in the order in which they were posted, with an end after each batch.
use Rattle.std.specs.Prelude.{◌≡◌, ℕ, ◌+◌, ◌≤◌, ◌<◌, Bool, true, false, List, [], ◌∷◌, ◌++◌, length, map, drop, slice_index_or}
use Rattle.semantics.specs.Graph.{Graph}
use Rattle.semantics.specs.Could.{Pointstamp, IsTimeAt}
use Rattle.machine.specs.Active.{one_if_same}
use Rattle.machine.specs.Views.{Changes}
use Rattle.views.specs.declared.queue.Change.{Change}
use Rattle.views.specs.declared.queue.Change.TheVariants.{Add, Remove, End}

-- these adds and removes, merged into the first batch
abbrev pub onto_first : (adds removes : Pointstamp → ℕ) → List Changes → List Changes
onto_first adds removes [] = []
onto_first adds removes (b ∷ batches) =
    record { sender = b.sender; adds = λ q. adds q + b.adds q; removes = λ q. removes q + b.removes q; applied = b.applied } ∷ batches

-- the batches; changes without an end don't make a batch yet
abbrev pub batches_of : (sender : ℕ) → List Change → List Changes
batches_of s [] = []
batches_of s (End ∷ changes) = record { sender = s; adds = λ q. 0; removes = λ q. 0; applied = false } ∷ batches_of s changes
batches_of s (Add p ∷ changes) = onto_first (λ q. one_if_same q p) (λ q. 0) (batches_of s changes)
batches_of s (Remove p ∷ changes) = onto_first (λ q. 0) (λ q. one_if_same q p) (batches_of s changes)

-- how often changes add a pointstamp
abbrev pub adds_in : List Change → Pointstamp → ℕ
adds_in [] q = 0
adds_in (End ∷ changes) q = adds_in changes q
adds_in (Add p ∷ changes) q = one_if_same q p + adds_in changes q
adds_in (Remove p ∷ changes) q = adds_in changes q

-- how often changes remove a pointstamp
abbrev pub removes_in : List Change → Pointstamp → ℕ
removes_in [] q = 0
removes_in (End ∷ changes) q = removes_in changes q
removes_in (Add p ∷ changes) q = removes_in changes q
removes_in (Remove p ∷ changes) q = one_if_same q p + removes_in changes q

-- the last batch has its end; if one has begun, there is an end
abbrev pub EndsFrom : (begun : Bool) → List Change → Type 0
EndsFrom false [] = Unit {0}
EndsFrom true [] = ⊥
EndsFrom begun (End ∷ changes) = EndsFrom false changes
EndsFrom begun (Add p ∷ changes) = EndsFrom true changes
EndsFrom begun (Remove p ∷ changes) = EndsFrom true changes

-- each pointstamp is one of the graph
abbrev pub AllKnown : Graph → List Change → Type 0
AllKnown g [] = Unit {0}
AllKnown g (End ∷ changes) = AllKnown g changes
AllKnown g (Add p ∷ changes) = IsTimeAt g p.location p.time × AllKnown g changes
AllKnown g (Remove p ∷ changes) = IsTimeAt g p.location p.time × AllKnown g changes

-- a batch as it is kept
abbrev pub as_changes : (added removed : List Pointstamp) → List Change
as_changes added removed = map Add added ++ (map Remove removed ++ (End ∷ []))

-- a queue: the place of each worker, and the room for more
pub record Queued : Type 0 where
  pub changes : List Change
  pub taken : List ℕ
  pub free : ℕ

-- what a worker hasn't taken yet
abbrev pub untaken : Queued → (worker : ℕ) → List Change
untaken queue w = drop (slice_index_or queue.taken w (length queue.changes)) queue.changes

-- each worker is at the end of a batch
pub record IsQueue (changes : List Change) (taken : List ℕ) : Type 0 where
  pub ends : EndsFrom false changes
  pub within : (w : ℕ) → w < length taken → slice_index_or taken w (length changes) ≤ length changes
  pub between : (w : ℕ) → w < length taken → EndsFrom false (drop (slice_index_or taken w (length changes)) changes)

-- the first batch of the changes is taken
pub record IsTaken (old new : List Change) : Type 0 where
  pub adds : Pointstamp → ℕ
  pub removes : Pointstamp → ℕ
  pub first : (s : ℕ) → batches_of s old ≡ record { sender = s; adds = adds; removes = removes; applied = false } ∷ batches_of s new

-- the same is untaken for each worker, and there is no less room
pub record IsSameQueue (q q' : Queued) : Type 0 where
  pub left_same : (w : ℕ) → untaken q' w ≡ untaken q w
  pub taken_long : length q'.taken ≡ length q.taken
  pub still_known : (g : Graph) → AllKnown g q.changes → AllKnown g q'.changes
  pub free_kept : q.free ≤ q'.free

-- n is a worker's place, or the end
pub data IsOneOf (taken : List ℕ) (all n : ℕ) : Type 0 where
  end : n ≡ all → IsOneOf taken all n
  place : (w : ℕ) → w < length taken → n ≡ slice_index_or taken w all → IsOneOf taken all n
