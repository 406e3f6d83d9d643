-- What a commit says of its event, so that it can be counted.
use Rattle.std.specs.Prelude.{◌≡◌, ℕ, List, length}
use Rattle.semantics.specs.Multiset.{Record, total}
use Rattle.machine.specs.Active.{sum_below}
use Rattle.machine.specs.Network.{Network}
use Rattle.machine.specs.Processing.{event_time, event_vertex}
use Rattle.machine.specs.Sending.{parcels}
use Rattle.machine.specs.Step.{Step}
use Rattle.machine.specs.World.{Event}
use Rattle.events.specs.Jobs.{Pass}
use Rattle.events.specs.Outputs.{counted, records_with}
use Rattle.board.specs.Kept.{Goes}
use Rattle.board.specs.Shown.{Shown, net}
use Rattle.board.specs.declared.sent.Sent.{Sent}

-- how many records a commit puts into the workers' mailboxes
abbrev pub records_sent : Network → (sender : ℕ) → Event → (out : ℕ → List Record) → ℕ
records_sent g j event out =
    sum_below g.workers (λ to. total (λ m. length m.records) (parcels g j (event_vertex g event) (g.act (event_vertex g event) (event_time event)) out to g.edges))

-- a commit ends the event, and what is told of it is its worker, its vertex, the records that came with it, and those that are sent
pub record TellsCommit (s t : Shown) (p : Pass) (sent : Sent) : Type 0 where
  pub out : ℕ → List Record
  pub goes : Goes s (Step.commit p.worker p.job.happening out) t
  pub worker : sent.worker ≡ p.worker
  pub vertex : sent.vertex ≡ event_vertex (net s) p.job.happening
  pub received : sent.received ≡ counted (length (records_with p.job.happening))
  pub records : sent.records ≡ counted (records_sent (net s) p.worker p.job.happening out)
