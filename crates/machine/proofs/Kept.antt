-- The facts that hold in every reached world.
use Rattle.std.specs.Prelude.{◌≡◌, ◌≢◌, ◌<◌, ℕ, ◌+◌, Bool, true, cond, ◌==◌, List, [], ◌∷◌, ◌⊎◌}
use Rattle.semantics.specs.Multiset.{end_to_end, total, Record, count, ◌≈◌, IsPartOf, one_if}
use Rattle.semantics.specs.Time.{Time, same_time, at_epoch}
use Rattle.semantics.specs.Could.{on_edge, at_vertex}
use Rattle.machine.specs.Network.{Network}
use Rattle.machine.specs.World.{Message, Request, Event, Held, World}
use Rattle.machine.specs.Active.{sum_below, message_pointstamp, request_pointstamp}
use Rattle.machine.specs.Frontier.{NoneBefore, NoOtherBefore, Passed}
use Rattle.machine.proofs.NetFlow.{ins}
use Rattle.semantics.specs.Kinds.{Role}
use Rattle.machine.proofs.Laws.{AtHome, IsOutput}
use Rattle.machine.proofs.NetFlow.{fed_at}

-- P holds of each element
abbrev pub each : {X : Type 0} → (X → Type 0) → List X → Type 0
each P [] = Unit {0}
each P (x ∷ xs) = P x × each P xs

-- What the world doesn't record: what each worker has processed, by edge and time, and which of its notifications it has processed.
pub record History : Type 0 where
  pub done : ℕ → ℕ → Time → List Record
  pub notified : ℕ → ℕ → Time → Bool

-- how often a record is in a message, if the message is on this edge at this time
abbrev pub carried : ℕ → Time → Record → Message → ℕ
carried e t r m = cond (m.edge == e) (cond (same_time m.time t) (count r m.records) 0) 0

abbrev pub carried_by : ℕ → Time → Record → Event → ℕ
carried_by e t r (Event.arrival m) = carried e t r m
carried_by e t r (Event.notification n) = 0

abbrev pub held_records : ℕ → Time → Record → Held → ℕ
held_records e t r Held.nothing = 0
held_records e t r (Held.holding up event) = carried_by e t r event

-- how many are under way to one worker
abbrev pub under_way : World → ℕ → Time → Record → ℕ → ℕ
under_way w e t r k = total (carried e t r) (w.mail k) + held_records e t r (w.held k)

-- 1 for a request or notification of this vertex and time
abbrev pub one_if_at : ℕ → Time → Request → ℕ
one_if_at v t n = cond (n.vertex == v) (cond (same_time n.time t) 1 0) 0

-- by an event: 1 for the notification of this vertex and time
abbrev pub one_if_notifies : ℕ → Time → Event → ℕ
one_if_notifies v t (Event.arrival m) = 0
one_if_notifies v t (Event.notification n) = one_if_at v t n

-- by what a worker holds
abbrev pub held_notifications : ℕ → Time → Held → ℕ
held_notifications v t Held.nothing = 0
held_notifications v t (Held.holding up event) = one_if_notifies v t event

-- a worker's requests of this vertex and time, and the notification that it holds
abbrev pub open_requests : World → ℕ → Time → ℕ → ℕ
open_requests w v t k = total (one_if_at v t) (w.requests k) + held_notifications v t (w.held k)

-- 1 if the list isn't empty
abbrev pub some : List Record → ℕ
some [] = 0
some (r ∷ records) = 1

-- what a worker's part of a vertex has made at a time
abbrev pub made : Network → History → ℕ → ℕ → Time → Record → ℕ → ℕ
made g h v q t r k = cond (h.notified k v t) (count r (g.op v q t (ins g (h.done k) v t))) 0

abbrev pub GoodMessage : Network → ℕ → Message → Type 0
GoodMessage g k m = (m.edge < g.edges) × (0 < some m.records) × (g.role (g.target m.edge) ≡ Role.stateful ⊎ g.role (g.target m.edge) ≡ Role.notified → AtHome g k m.edge m.records) × g.IsPointstamp (message_pointstamp m)

abbrev pub GoodRequest : Network → Request → Type 0
GoodRequest g n = (g.role n.vertex ≡ Role.notified) × g.IsPointstamp (request_pointstamp n)

abbrev pub GoodEvent : Network → ℕ → Event → Type 0
GoodEvent g k (Event.arrival m) = GoodMessage g k m
GoodEvent g k (Event.notification n) = GoodRequest g n

abbrev pub GoodHeld : Network → ℕ → Held → Type 0
GoodHeld g k Held.nothing = Unit {0}
GoodHeld g k (Held.holding up event) = GoodEvent g k event

-- what a worker has processed at a vertex and time, on all its ports
abbrev pub done_at : Network → History → ℕ → ℕ → Time → List Record
done_at g h k v t = end_to_end (λ p. h.done k (g.edge_into v p) t) (g.ports v)

-- the worker's notification was processed, or the worker holds it
abbrev pub Due : World → History → ℕ → ℕ → Time → Type 0
Due w h k v t = h.notified k v t ≡ true ⊎ 0 < held_notifications v t (w.held k)

pub record Kept (g : Network) (w : World) (h : History) : Type 0 where
  -- what was sent on an edge was processed, or is under way
  pub balance : (e : ℕ) (t : Time) (r : Record) → e < g.edges → count r (w.sent e t) ≡ sum_below g.workers (λ k. count r (h.done k e t)) + sum_below g.workers (under_way w e t r)
  -- an input sent what was fed
  pub from_input : (e : ℕ) (t : Time) → e < g.edges → g.role (g.source e) ≡ Role.input → (w.sent e t) ≈ (fed_at w.fed (g.source e) t)
  -- another vertex sent what its workers' parts have made
  pub from_vertex : (e : ℕ) (u : Time) (r : Record) → e < g.edges → g.IsPointstamp (on_edge e u) → g.role (g.source e) ≢ Role.input →
      count r (w.sent e u) ≡ total (λ t. sum_below g.workers (made g h (g.source e) (g.out_port e) t r)) (g.times_before (g.source e) u)
  -- a group waits for its notification exactly if it absorbed something and had no notification yet; no other vertex is ever notified
  pub notifications : (k v : ℕ) (t : Time) → k < g.workers → g.role v ≡ Role.notified → open_requests w v t k + one_if (h.notified k v t) ≡ some (done_at g h k v t)
  pub always_notified : (k v : ℕ) (t : Time) → g.role v ≢ Role.notified → h.notified k v t ≡ true
  -- nothing more comes to a group that has had its notification
  pub settled : (k v : ℕ) (t : Time) → k < g.workers → g.role v ≡ Role.notified → Due w h k v t → NoOtherBefore g w (at_vertex v t)
  pub at_home : (k e : ℕ) (t : Time) → k < g.workers → e < g.edges → g.role (g.target e) ≡ Role.stateful ⊎ g.role (g.target e) ≡ Role.notified → AtHome g k e (h.done k e t)
  pub good_mail : (k : ℕ) → k < g.workers → each (GoodMessage g k) (w.mail k)
  pub good_requests : (k : ℕ) → k < g.workers → each (GoodRequest g) (w.requests k)
  pub good_held : (k : ℕ) → k < g.workers → GoodHeld g k (w.held k)
  -- what the shards hold is what was processed
  pub shards : (k v p : ℕ) (t : Time) → k < g.workers → p < g.ports v → g.role v ≡ Role.stateful ⊎ g.role v ≡ Role.notified → w.absorbed k v p t ≡ h.done k (g.edge_into v p) t
  -- what was emitted is what the output vertices processed
  pub output : (v n : ℕ) (r : Record) → IsOutput g v → count r (w.emitted v n) ≡ sum_below g.workers (λ k. count r (h.done k (g.edge_into v 0) (at_epoch n)))

-- the parts of the headline, at a world whose inputs' records have this flow
pub record Headline (g : Network) (w : World) (flow : ℕ → Time → List Record) : Type 0 where
  pub part : (e : ℕ) (t : Time) → e < g.edges → g.IsPointstamp (on_edge e t) → IsPartOf (w.sent e t) (flow e t)
  pub whole : (e : ℕ) (t : Time) → e < g.edges → g.IsPointstamp (on_edge e t) → NoneBefore g w (on_edge e t) → (w.sent e t) ≈ (flow e t)
  pub emitted_part : (v n : ℕ) → IsOutput g v → IsPartOf (w.emitted v n) (flow (g.edge_into v 0) (at_epoch n))
  pub emitted_whole : (v n : ℕ) → IsOutput g v → Passed g w v n → (w.emitted v n) ≈ (flow (g.edge_into v 0) (at_epoch n))
