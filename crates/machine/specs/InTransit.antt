-- What is in mailboxes, in requests and held by workers fits the graph.
use Rattle.std.specs.Prelude.{◌≡◌, ℕ, ◌<◌, true, length}
use Rattle.semantics.specs.Time.{last, turn_count}
use Rattle.semantics.specs.Kinds.{Kind, Role, role, ends_turn}
use Rattle.semantics.specs.Graph.{Graph, vertex, target}
use Rattle.semantics.specs.Could.{Location, IsTimeAt}
use Rattle.semantics.specs.PortArity.{HaveFields}
use Rattle.machine.specs.World.{Message, Request, Event, World}

pub record IsGoodMessage (g : Graph) (m : Message) : Type 0 where
  -- the graph has its edge, and its time has the edge's depth
  pub fits : IsTimeAt g (Location.edge m.edge) m.time
  pub some : 0 < length m.records
  -- on an edge into a feedback or an egress, the last counter is within the limit of turns
  pub within : ends_turn (vertex g (target g m.edge)).kind ≡ true → last m.time.counters < turn_count

pub record IsGoodRequest (g : Graph) (n : Request) : Type 0 where
  -- the graph has its vertex, and its time has the vertex's depth
  pub fits : IsTimeAt g (Location.vertex n.vertex) n.time
  pub notified : role (vertex g n.vertex).kind ≡ Role.notified

-- the same for what a worker holds
abbrev pub IsGoodEvent : Graph → Event → Type 0
IsGoodEvent g (Event.arrival m) = IsGoodMessage g m
IsGoodEvent g (Event.notification n) = IsGoodRequest g n

-- each record that was fed has its input's arity
abbrev pub FedFits : Graph → (arity : (vertex : ℕ) → ℕ) → World → Type 0
FedFits g arity w = (v epoch : ℕ) → v < length g → (vertex g v).kind ≡ Kind.input → HaveFields (arity v) (w.fed v epoch)
