-- How each step changes the active pointstamps, and which sender made the change. (Naiad, SOSP 2013, section 3.3: progress updates.)
use Rattle.std.specs.Prelude.{ℕ, ◌+◌, List}
use Rattle.semantics.specs.Multiset.{total, Record}
use Rattle.semantics.specs.Could.{Pointstamp, at_vertex}
use Rattle.semantics.specs.Time.{Time, at_epoch}
use Rattle.machine.specs.Network.{Network}
use Rattle.machine.specs.World.{World}
use Rattle.machine.specs.Active.{sum_below, one_if_same, message_pointstamp, request_pointstamp, event_pointstamp}
use Rattle.machine.specs.Sending.{parcels}
use Rattle.machine.specs.Processing.{event_vertex, event_time, asked}
use Rattle.machine.specs.Step.{Step}

-- how many of the messages that a vertex sends are at the pointstamp
abbrev pub parcel_count : Network → (sender vertex : ℕ) → Time → (out : ℕ → List Record) → Pointstamp → ℕ
parcel_count g sender v u out p = sum_below g.workers (λ to. total (λ m. one_if_same p (message_pointstamp m)) (parcels g sender v u out to g.edges))

-- how often a step adds a pointstamp; what is claimed was active before, and stays active
abbrev pub step_adds : Network → World → Step → Pointstamp → ℕ
step_adds g w (Step.feed i records) p = parcel_count g 0 i (at_epoch (w.open_epoch i)) (λ q. records) p
step_adds g w (Step.seal i) p = one_if_same p (at_vertex i (at_epoch (w.open_epoch i + 1)))
step_adds g w (Step.close i) p = 0
step_adds g w (Step.claim_message k at m) p = 0
step_adds g w (Step.claim_request k at n) p = 0
step_adds g w (Step.merge k at m n) p = 0
step_adds g w (Step.commit k event out) p =
    parcel_count g k (event_vertex g event) (g.act (event_vertex g event) (event_time event)) out p
    + total (λ n. one_if_same p (request_pointstamp n)) (asked g w k event)
step_adds g w (Step.abandon k event) p = 0

-- how often a step removes a pointstamp; what is abandoned stays active for good
abbrev pub step_removes : Network → World → Step → Pointstamp → ℕ
step_removes g w (Step.feed i records) p = 0
step_removes g w (Step.seal i) p = one_if_same p (at_vertex i (at_epoch (w.open_epoch i)))
step_removes g w (Step.close i) p = one_if_same p (at_vertex i (at_epoch (w.open_epoch i)))
step_removes g w (Step.claim_message k at m) p = 0
step_removes g w (Step.claim_request k at n) p = 0
step_removes g w (Step.merge k at m n) p = one_if_same p (message_pointstamp n)
step_removes g w (Step.commit k event out) p = one_if_same p (event_pointstamp event)
step_removes g w (Step.abandon k event) p = 0

-- the sender of the change: a worker or, by the number of workers, the feeder, which feeds, seals and closes
abbrev pub step_sender : Network → Step → ℕ
step_sender g (Step.feed i records) = g.workers
step_sender g (Step.seal i) = g.workers
step_sender g (Step.close i) = g.workers
step_sender g (Step.claim_message k at m) = k
step_sender g (Step.claim_request k at n) = k
step_sender g (Step.merge k at m n) = k
step_sender g (Step.commit k event out) = k
step_sender g (Step.abandon k event) = k
