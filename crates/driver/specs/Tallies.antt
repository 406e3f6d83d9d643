-- What the counters of a run say.
use Rattle.std.specs.Prelude.{◌≡◌, ◌+◌, ◌==◌, ◌<◌, ℕ, cond, List, [], ◌∷◌, length, Option, Some, IsSome, option_map, slice_get, slice_index_or}
use Rattle.semantics.specs.Multiset.{Record, total}
use Rattle.graph.specs.Shown.{shown_graph}
use Rattle.machine.specs.Network.{Network}
use Rattle.machine.specs.Processing.{event_vertex}
use Rattle.machine.specs.Run.{Run}
use Rattle.machine.specs.Step.{Step}
use Rattle.machine.specs.World.{Event, World}
use Rattle.board.specs.Outputs.{counted, records_with}
use Rattle.board.specs.Counting.{records_sent}
use Rattle.board.specs.Showing.{Shows}
use Rattle.board.specs.Shown.{Shown, net}
use Rattle.board.specs.declared.sent.Sent.{Sent}
use Rattle.driver.specs.declared.tally.Counts.{Counts}

-- a row for each vertex, with the counters of each worker
abbrev pub Rows : Type 0
Rows = List (List Counts)

-- the counters of a vertex at a worker, if there are any
abbrev pub at : Rows → (vertex worker : ℕ) → Option Counts
at rows v k = slice_get (slice_index_or rows v []) k

-- each of the first n numbers has counters
abbrev pub Covers : List Counts → (n : ℕ) → Type 0
Covers row n = (k : ℕ) → k < n → IsSome (slice_get row k)

-- each of the first n vertices has counters for each of the first m workers
abbrev pub CoversAll : Rows → (n m : ℕ) → Type 0
CoversAll rows n m = (v : ℕ) → v < n → Covers (slice_index_or rows v []) m

-- nothing is counted yet, in a row and in all of them
abbrev pub IsZero : List Counts → Type 0
IsZero row = (k : ℕ) (c : Counts) → slice_get row k ≡ Some c → c ≡ record { events = 0; received = 0; sent = 0 }

abbrev pub AreZero : Rows → Type 0
AreZero rows = (v : ℕ) → IsZero (slice_index_or rows v [])

-- the counters after one more commit
abbrev pub raised : Sent → Counts → Counts
raised sent c = record { events = counted (c.events + 1); received = counted (c.received + sent.received); sent = counted (c.sent + sent.records) }

-- in a row, the counters of the event's worker are raised, and no others
abbrev pub RaisesIn : (old : List Counts) → Sent → (new : List Counts) → Type 0
RaisesIn old sent new = (k : ℕ) → slice_get new k ≡ cond (k == sent.worker) (option_map (raised sent) (slice_get old k)) (slice_get old k)

-- the counters of the event's vertex and worker are raised, and no others
pub record Raises (old : Rows) (sent : Sent) (new : Rows) : Type 0 where
  pub many : length new ≡ length old
  pub each : (v k : ℕ) → at new v k ≡ cond (v == sent.vertex) (cond (k == sent.worker) (option_map (raised sent) (at old v k)) (at old v k)) (at old v k)

-- a number of a commit of a worker's event at a vertex, and 0 of every other step
abbrev pub of_commit : Network → (vertex worker : ℕ) → ((worker : ℕ) → Event → (out : ℕ → List Record) → ℕ) → Step → ℕ
of_commit g v k f (Step.feed i records) = 0
of_commit g v k f (Step.seal i) = 0
of_commit g v k f (Step.close i) = 0
of_commit g v k f (Step.claim_message j at m) = 0
of_commit g v k f (Step.claim_request j at n) = 0
of_commit g v k f (Step.merge j at m n) = 0
of_commit g v k f (Step.commit j event out) = cond (v == event_vertex g event) (cond (k == j) (f j event out) 0) 0
of_commit g v k f (Step.abandon j event) = 0

-- how many events of the vertex the worker commits in these steps
abbrev pub events_in : Network → (vertex worker : ℕ) → List Step → ℕ
events_in g v k steps = total (of_commit g v k (λ j event out. 1)) steps

-- how many records come with these events
abbrev pub received_in : Network → (vertex worker : ℕ) → List Step → ℕ
received_in g v k steps = total (of_commit g v k (λ j event out. length (records_with event))) steps

-- how many records these events send
abbrev pub sent_in : Network → (vertex worker : ℕ) → List Step → ℕ
sent_in g v k steps = total (of_commit g v k (records_sent g)) steps

-- the counters have these numbers
pub record HaveCounted (c : Counts) (events received sent : ℕ) : Type 0 where
  pub events_are : c.events ≡ counted events
  pub received_are : c.received ≡ counted received
  pub sent_are : c.sent ≡ counted sent

-- Some steps lead from what was shown first to what is shown now, each vertex has counters for each worker, and they have the numbers of what these
-- did in the steps.
pub record IsCounted (s t : Shown) (rows : Rows) : Type 0 where
  pub steps : List Step
  pub leads : (w : World) → Shows s w → (x : World) × Run (net s) w steps x × Shows t x
  pub each : (v k : ℕ) (c : Counts) → at rows v k ≡ Some c → HaveCounted c (events_in (net s) v k steps) (received_in (net s) v k steps) (sent_in (net s) v k steps)
  pub full : CoversAll rows (length (shown_graph s.graph)) (length s.sides)
  pub graph : t.graph ≡ s.graph
  pub workers : length t.sides ≡ length s.sides

-- the same; without rows nothing is counted
abbrev pub IsTally : (first now : Shown) → Rows → Type 0
IsTally s t [] = Unit {0}
IsTally s t (row ∷ rows) = IsCounted s t (row ∷ rows)

-- whatever was shown first, counters that said what was done still do
abbrev pub StaysTally : Shown → Rows → Shown → Rows → Type 0
StaysTally t old u new = (s : Shown) → IsTally s t old → IsTally s u new
