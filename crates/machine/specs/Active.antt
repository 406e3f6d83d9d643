-- The active pointstamps: of messages, requests and held events, and of open inputs. An event counts until its commit ends, and for good once it is
-- abandoned. (Naiad, SOSP 2013, section 2.3.)
use Rattle.std.specs.Prelude.{◌≡◌, ℕ, zero, suc, ◌+◌, ◌<◌, Bool, false, cond, ◌==◌, slice_get, Some}
use Rattle.semantics.specs.Multiset.{total}
use Rattle.semantics.specs.Could.{Pointstamp, Location, on_edge, at_vertex}
use Rattle.semantics.specs.Time.{same_time, at_epoch}
use Rattle.semantics.specs.Kinds.{Role}
use Rattle.machine.specs.Network.{Network}
use Rattle.machine.specs.World.{Message, Request, Event, Held, World}

-- a message is on its edge
abbrev pub message_pointstamp : Message → Pointstamp
message_pointstamp m = on_edge m.edge m.time

-- a request is at its vertex
abbrev pub request_pointstamp : Request → Pointstamp
request_pointstamp n = at_vertex n.vertex n.time

-- an event is where its message or its request was
abbrev pub event_pointstamp : Event → Pointstamp
event_pointstamp (Event.arrival m) = message_pointstamp m
event_pointstamp (Event.notification n) = request_pointstamp n

-- the pointstamp is active
pub data IsActive (g : Network) (w : World) : Pointstamp → Type 0 where
  of_input : (i : ℕ) → g.role i ≡ Role.input → w.closed i ≡ false → IsActive g w (at_vertex i (at_epoch (w.open_epoch i)))
  of_mail : (k at : ℕ) (m : Message) → k < g.workers → slice_get (w.mail k) at ≡ Some m → IsActive g w (message_pointstamp m)
  of_request : (k at : ℕ) (n : Request) → k < g.workers → slice_get (w.requests k) at ≡ Some n → IsActive g w (request_pointstamp n)
  of_held : (k : ℕ) (up : Bool) (event : Event) → k < g.workers → w.held k ≡ Held.holding up event → IsActive g w (event_pointstamp event)

-- ---- the same as counts

-- the sum of f over the numbers below n
abbrev pub sum_below : ℕ → (ℕ → ℕ) → ℕ
sum_below zero f = 0
sum_below (suc n) f = sum_below n f + f n

-- the locations are equal
abbrev pub same_location : Location → Location → Bool
same_location (Location.edge e) (Location.edge f) = e == f
same_location (Location.edge e) (Location.vertex v) = false
same_location (Location.vertex v) (Location.edge e) = false
same_location (Location.vertex v) (Location.vertex u) = v == u

-- 1 if the two pointstamps are equal
abbrev pub one_if_same : Pointstamp → Pointstamp → ℕ
one_if_same p q = cond (same_location p.location q.location) (cond (same_time p.time q.time) 1 0) 0

-- by what a worker holds
abbrev pub held_count : Pointstamp → Held → ℕ
held_count p Held.nothing = 0
held_count p (Held.holding up event) = one_if_same p (event_pointstamp event)

-- by an input, while it is open: its vertex at the open epoch
abbrev pub open_input_count : World → Pointstamp → (input : ℕ) → ℕ
open_input_count w p i = cond (w.closed i) 0 (one_if_same p (at_vertex i (at_epoch (w.open_epoch i))))

-- by a worker: its mailbox, its requests and what it holds
abbrev pub worker_count : World → Pointstamp → (worker : ℕ) → ℕ
worker_count w p k =
    total (λ m. one_if_same p (message_pointstamp m)) (w.mail k)
    + total (λ n. one_if_same p (request_pointstamp n)) (w.requests k)
    + held_count p (w.held k)

-- how often a pointstamp is active
abbrev pub active_count : Network → World → Pointstamp → ℕ
active_count g w p = sum_below g.inputs (open_input_count w p) + sum_below g.workers (worker_count w p)
