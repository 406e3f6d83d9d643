-- What the commit of an event leaves at its vertex, by the vertex's role. (Naiad, SOSP 2013, section 2.2: OnRecv, OnNotify.)
use Rattle.std.specs.Prelude.{ℕ, cond, ◌==◌, List, [], ◌∷◌, ◌++◌}
use Rattle.semantics.specs.Multiset.{Record, end_to_end}
use Rattle.semantics.specs.Time.{Time, same_time, at_epoch}
use Rattle.semantics.specs.Kinds.{Role}
use Rattle.semantics.specs.Shard.{Absorbed, absorbed_by, SendsBy, SendsAtNotification, asks}
use Rattle.machine.specs.Network.{Network}
use Rattle.machine.specs.World.{Message, Request, Event, World}

-- the vertex at which an event is processed
abbrev pub event_vertex : Network → Event → ℕ
event_vertex g (Event.arrival m) = g.target m.edge
event_vertex g (Event.notification n) = n.vertex

-- the time at which an event is processed
abbrev pub event_time : Event → Time
event_time (Event.arrival m) = m.time
event_time (Event.notification n) = n.time

-- ---- what is absorbed

-- what a worker's shard of a message's vertex has absorbed after it
abbrev pub absorbed_then : Network → World → (worker : ℕ) → Message → Absorbed
absorbed_then g w k m = absorbed_by (g.role (g.target m.edge)) (w.absorbed k (g.target m.edge)) (g.in_port m.edge) m.time m.records

-- ---- what is asked for

-- all that a worker had absorbed at a vertex and time, on all its ports
abbrev pub absorbed_at : Network → World → (worker vertex : ℕ) → Time → List Record
absorbed_at g w k v t = end_to_end (λ p. w.absorbed k v p t) (g.ports v)

-- the requests that an event makes: one, when a notified vertex's shard absorbs its first records at a time
abbrev pub asked : Network → World → (worker : ℕ) → Event → List Request
asked g w k (Event.arrival m) =
    cond (asks (g.role (g.target m.edge)) (absorbed_at g w k (g.target m.edge) m.time)) (record { vertex = g.target m.edge; time = m.time } ∷ []) []
asked g w k (Event.notification n) = []

-- ---- what is emitted

-- what was emitted, plus these records at an output vertex at a time
abbrev pub emitted_with : World → (vertex : ℕ) → Time → List Record → (output epoch : ℕ) → List Record
emitted_with w v t records v' n = w.emitted v' n ++ cond (v == v') (cond (same_time t (at_epoch n)) records []) []

-- only outputs emit
abbrev pub emitted_by : Role → World → (vertex : ℕ) → Time → List Record → (output epoch : ℕ) → List Record
emitted_by Role.input w v t records = w.emitted
emitted_by Role.stateless w v t records = w.emitted
emitted_by Role.stateful w v t records = w.emitted
emitted_by Role.notified w v t records = w.emitted
emitted_by Role.output w v t records = emitted_with w v t records

-- only messages are emitted
abbrev pub emitted_after : Network → World → Event → (output epoch : ℕ) → List Record
emitted_after g w (Event.arrival m) = emitted_by (g.role (g.target m.edge)) w (g.target m.edge) m.time m.records
emitted_after g w (Event.notification n) = w.emitted

-- ---- what is sent

-- what a vertex of that role sends for a message, as multisets, by out port
abbrev pub MakesBy : Role → Network → World → (worker : ℕ) → Message → (out : ℕ → List Record) → Type 0
MakesBy role g w k m out =
    SendsBy role (λ q. g.op (g.target m.edge) q m.time) (λ p. w.absorbed k (g.target m.edge) p m.time)
    (λ p. absorbed_then g w k m p m.time) (g.in_port m.edge) m.records out

-- what is sent for an event
abbrev pub Makes : Network → World → (worker : ℕ) → Event → (out : ℕ → List Record) → Type 0
Makes g w k (Event.arrival m) out = MakesBy (g.role (g.target m.edge)) g w k m out
Makes g w k (Event.notification n) out = SendsAtNotification (λ q. g.op n.vertex q n.time) (g.reads n.vertex (w.absorbed k n.vertex) n.time) out
