-- The steps that the engine may take: when each is allowed, and what it does. A step names everything that was chosen, including the event and the
-- records sent, so the world after it is a function of the step. What isn't mentioned stays.
use Rattle.std.specs.Prelude.{◌≡◌, ℕ, suc, ◌+◌, ◌<◌, true, false, cond, ◌==◌, List, ◌∷◌, ◌++◌, drop, length, slice_get, remove, Some}
use Rattle.semantics.specs.Multiset.{Record}
use Rattle.semantics.specs.Time.{at_epoch}
use Rattle.semantics.specs.Kinds.{Role}
use Rattle.semantics.specs.Shard.{Absorbed}
use Rattle.machine.specs.Network.{Network}
use Rattle.machine.specs.World.{Message, Request, Event, Held, World}
use Rattle.machine.specs.Active.{request_pointstamp}
use Rattle.machine.specs.Frontier.{NoOtherBefore}
use Rattle.machine.specs.Sending.{mail_after, sent_after}
use Rattle.machine.specs.Processing.{event_vertex, event_time, absorbed_then, asked, emitted_after, Makes}

pub data Step : Type 0 where
  -- records come to an input at its open epoch
  feed : (input : ℕ) → List Record → Step
  -- the input's open epoch ends, and the next one opens
  seal : (input : ℕ) → Step
  -- no more records come to the input
  close : (input : ℕ) → Step
  -- a worker takes a message out of its mailbox, or a request that may be delivered; `at` is its place there
  claim_message : (worker at : ℕ) → Message → Step
  claim_request : (worker at : ℕ) → Request → Step
  -- a worker appends the records of a message in its mailbox to those of its first message, which is on the same edge at the same time; `at` is its
  -- place behind the first
  merge : (worker at : ℕ) (first second : Message) → Step
  -- the held event ends, and its vertex sends `out`, by out port
  commit : (worker : ℕ) → Event → (out : ℕ → List Record) → Step
  -- the held event is abandoned, and the engine stops
  abandon : (worker : ℕ) → Event → Step

-- ---- when a step may be taken

-- the input may still be fed, and the engine runs
abbrev pub InputOpen : Network → World → (input : ℕ) → Type 0
InputOpen g w i = (g.role i ≡ Role.input) × (w.closed i ≡ false) × (w.stopped ≡ false)

-- the worker holds nothing, and the engine runs
abbrev pub MayClaim : Network → World → (worker : ℕ) → Type 0
MayClaim g w k = (k < g.workers) × (w.held k ≡ Held.nothing) × (w.stopped ≡ false)

-- A request may be delivered if no other pointstamp that is active could result in its own. The request of another worker for the same pointstamp
-- doesn't block it. A stopped engine still takes commits.
abbrev pub Allowed : Network → World → Step → Type 0
Allowed g w (Step.feed i records) = InputOpen g w i × (0 < length records)
Allowed g w (Step.seal i) = InputOpen g w i
Allowed g w (Step.close i) = InputOpen g w i
Allowed g w (Step.claim_message k at m) = MayClaim g w k × (slice_get (w.mail k) at ≡ Some m)
Allowed g w (Step.claim_request k at n) = MayClaim g w k × (slice_get (w.requests k) at ≡ Some n) × NoOtherBefore g w (request_pointstamp n)
Allowed g w (Step.merge k at m n) =
    MayClaim g w k × (slice_get (w.mail k) 0 ≡ Some m) × (slice_get (w.mail k) (suc at) ≡ Some n) × (n.edge ≡ m.edge) × (n.time ≡ m.time)
Allowed g w (Step.commit k event out) = (k < g.workers) × (w.held k ≡ Held.holding false event) × Makes g w k event out
Allowed g w (Step.abandon k event) = (k < g.workers) × (w.held k ≡ Held.holding false event)

-- ---- what a step does

-- f with another value at k
abbrev pub put : {X : Type 0} → (ℕ → X) → (k : ℕ) → X → ℕ → X
put f k x j = cond (j == k) x (f j)

-- what was fed, plus records at the input's open epoch
abbrev pub fed_after : World → (input : ℕ) → List Record → (input epoch : ℕ) → List Record
fed_after w i records = put w.fed i (put (w.fed i) (w.open_epoch i) (w.fed i (w.open_epoch i) ++ records))

-- what was absorbed, after an event: a message is absorbed by its worker's shard of its vertex, and no other shard changes
abbrev pub absorbed_after : Network → World → (worker : ℕ) → Event → (worker vertex : ℕ) → Absorbed
absorbed_after g w k (Event.arrival m) = put w.absorbed k (put (w.absorbed k) (g.target m.edge) (absorbed_then g w k m))
absorbed_after g w k (Event.notification n) = w.absorbed

-- both messages merged
abbrev pub merged : (first second : Message) → Message
merged m n = record m { records = m.records ++ n.records }

-- The world after a step. No worker sends what is fed; it is routed by key or by the whole record, so the sender 0 below could be any.
abbrev pub after_step : Network → World → Step → World
after_step g w (Step.feed i records) =
    record w {
      fed = fed_after w i records;
      mail = mail_after g w 0 i (at_epoch (w.open_epoch i)) (λ q. records);
      sent = sent_after g w i (at_epoch (w.open_epoch i)) (λ q. records);
    }
after_step g w (Step.seal i) = record w { open_epoch = put w.open_epoch i (w.open_epoch i + 1) }
after_step g w (Step.close i) = record w { closed = put w.closed i true }
after_step g w (Step.claim_message k at m) =
    record w { mail = put w.mail k (remove (w.mail k) at); held = put w.held k (Held.holding false (Event.arrival m)) }
after_step g w (Step.claim_request k at n) =
    record w { requests = put w.requests k (remove (w.requests k) at); held = put w.held k (Held.holding false (Event.notification n)) }
after_step g w (Step.merge k at m n) = record w { mail = put w.mail k (merged m n ∷ remove (drop 1 (w.mail k)) at) }
after_step g w (Step.commit k event out) =
    record w {
      held = put w.held k Held.nothing;
      absorbed = absorbed_after g w k event;
      requests = put w.requests k (w.requests k ++ asked g w k event);
      mail = mail_after g w k (event_vertex g event) (g.act (event_vertex g event) (event_time event)) out;
      emitted = emitted_after g w event;
      sent = sent_after g w (event_vertex g event) (g.act (event_vertex g event) (event_time event)) out;
    }
after_step g w (Step.abandon k event) = record w { held = put w.held k (Held.holding true event); stopped = true }
