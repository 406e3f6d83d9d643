-- The engine's state at one moment. (Naiad, SOSP 2013, section 2.2: messages, notifications and the state of vertices.)
use Rattle.std.specs.Prelude.{ℕ, Bool, false, List, []}
use Rattle.semantics.specs.Multiset.{Record}
use Rattle.semantics.specs.Time.{Time}
use Rattle.semantics.specs.Shard.{Absorbed}

-- records on their way to a worker
pub record Message : Type 0 where
  pub edge : ℕ
  pub time : Time
  pub records : List Record

-- asks for a notification at a vertex once nothing more can come to it at a time
pub record Request : Type 0 where
  pub vertex : ℕ
  pub time : Time

-- what a worker processes: a message that arrives, or a notification that was asked for
pub data Event : Type 0 where
  arrival : Message → Event
  notification : Request → Event

-- what a worker holds: nothing, or an event, perhaps abandoned
pub data Held : Type 0 where
  nothing : Held
  holding : (abandoned : Bool) → Event → Held

pub record World : Type 0 where
  -- by input, which is the vertex of the same number
  pub fed : (input epoch : ℕ) → List Record
  pub open_epoch : (input : ℕ) → ℕ
  pub closed : (input : ℕ) → Bool
  -- by worker; the mailbox in order of arrival, the requests in the order in which they were made
  pub mail : (worker : ℕ) → List Message
  pub requests : (worker : ℕ) → List Request
  pub held : (worker : ℕ) → Held
  -- what each worker's shard of a vertex has absorbed; only those of vertices with a state do
  pub absorbed : (worker vertex : ℕ) → Absorbed
  -- by output vertex and epoch
  pub emitted : (output epoch : ℕ) → List Record
  -- whether an event was abandoned
  pub stopped : Bool
  -- everything that was ever sent on an edge at a time; no engine stores it, only the theorems use it
  pub sent : (edge : ℕ) → Time → List Record

-- before all steps
abbrev pub opening : World
opening =
    record {
      fed = λ i n. [];
      open_epoch = λ i. 0;
      closed = λ i. false;
      mail = λ k. [];
      requests = λ k. [];
      held = λ k. Held.nothing;
      absorbed = λ k v p t. [];
      emitted = λ v n. [];
      stopped = false;
      sent = λ e t. [];
    }
