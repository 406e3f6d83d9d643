-- What is handed out, and what is merged before that.
use Rattle.std.specs.Prelude.{◌≡◌, ℕ, List, Some, None, slice_get, slice_index_or}
use Rattle.graph.specs.Shown.{shown_graph}
use Rattle.semantics.specs.Could.{Pointstamp}
use Rattle.machine.specs.World.{Message, Request, Event}
use Rattle.events.specs.Jobs.{Pass}
use Rattle.board.specs.Merging.{AreMerged}
use Rattle.board.specs.Shown.{Shown, side_at, event_at}
use Rattle.board.specs.Steps.{after_claim_message, after_claim_request, with_side}

-- the event is of this worker of the board, and the shard is the one of its vertex
pub record IsTaken (s : Shown) (k : ℕ) (p : Pass) : Type 0 where
  pub worker : p.worker ≡ k
  pub table : p.table ≡ (side_at s k).table
  pub wired : p.job.wired ≡ (side_at s k).wired
  pub shard : slice_index_or (side_at s k).shards (event_at (shown_graph s.graph) p.job.happening) None ≡ Some p.job.before

pub record HandsMessage (s t : Shown) (worker at : ℕ) (p : Pass) : Type 0 where
  pub message : Message
  pub got : slice_get (side_at s worker).mail at ≡ Some message
  pub happening : p.job.happening ≡ Event.arrival message
  pub taken : IsTaken s worker p
  pub state : t ≡ after_claim_message s worker at p.job

pub record HandsRequest (s t : Shown) (worker at : ℕ) (p : Pass) : Type 0 where
  pub request : Request
  pub got : slice_get (side_at s worker).requests at ≡ Some request
  pub happening : p.job.happening ≡ Event.notification request
  pub taken : IsTaken s worker p
  pub state : t ≡ after_claim_request s worker at p.job

-- the message at this place behind the worker's first is merged into it; `place` is its pointstamp
pub record MergesMail (s t : Shown) (worker at : ℕ) (place : Pointstamp) : Type 0 where
  pub mail : List Message
  pub merges : AreMerged (side_at s worker).mail mail at place
  pub state : t ≡ with_side s worker (record (side_at s worker) { mail = mail })
