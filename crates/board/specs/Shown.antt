-- What a board shows.
use Rattle.std.specs.Prelude.{◌≡◌, ℕ, Bool, true, false, List, [], ◌++◌, length, map, Option, slice_index_or}
use Rattle.atomic_table.specs.Seated.{TableId}
use Rattle.semantics.specs.Multiset.{Record}
use Rattle.semantics.specs.Graph.{Graph, target}
use Rattle.semantics.specs.Could.{Location}
use Rattle.graph.specs.Shown.{GraphValue, shown_graph}
use Rattle.machine.specs.Network.{Network}
use Rattle.machine.specs.Engine.{network}
use Rattle.machine.specs.World.{Message, Request, Event, Held}
use Rattle.rows.specs.FlatRows.{joined}
use Rattle.vertices.specs.declared.shard.Shard.{Shard}
use Rattle.tokens.specs.declared.rule.Place.{Place}
use Rattle.tokens.specs.declared.rule.Place.TheVariants.{Home, Out, Lost}
use Rattle.events.specs.Jobs.{Job}
use Rattle.events.specs.Wired.{Wired}

-- batches by epoch, from epoch 0 on
abbrev pub Epochs : Type 0
Epochs = List (List (List Record))

abbrev pub records_at : Epochs → ℕ → List Record
records_at es e = joined (slice_index_or es e [])

-- what one vertex has emitted, taken from what each has
abbrev pub emitted_by : List Epochs → (vertex : ℕ) → Epochs
emitted_by es v = slice_index_or es v []

-- the batches that the vertex has emitted for an epoch
abbrev pub batches_at : List Epochs → (vertex epoch : ℕ) → List (List Record)
batches_at es v e = slice_index_or (emitted_by es v) e []

-- what was emitted stays, and more is only appended
abbrev pub EmitsBehind : (old new : List Epochs) → Type 0
EmitsBehind old new = (v e : ℕ) → (more : List (List Record)) × (batches_at new v e ≡ batches_at old v e ++ more)

-- an input
pub record InputShown : Type 0 where
  pub open_epoch : ℕ
  pub closed : Bool
  pub fed : Epochs

-- A worker's part. The table is what its events are known by; the place says where the shard of its event is. The shards are by vertex; the shard of
-- an event that is out is missing.
pub record Side : Type 0 where
  pub wired : Wired
  pub table : TableId
  pub mail : List Message
  pub requests : List Request
  pub place : Place Job
  pub shards : List (Option Shard)

-- `emitted` is by vertex
pub record Shown : Type 0 where
  pub graph : GraphValue
  pub inputs : List InputShown
  pub sides : List Side
  pub emitted : List Epochs
  pub stopped : Bool

-- the network that it runs
abbrev pub net : Shown → Network
net s = network (shown_graph s.graph) (length s.sides)

-- the value beyond the last input
abbrev pub no_input : InputShown
no_input = record { open_epoch = 0; closed = false; fed = [] }

abbrev pub no_table : TableId
no_table = record { words = 0; slots = 0; views_name = 0; atom = 0; block = 0; offset = 0; slot_names = [] }

abbrev pub no_wired : Wired
no_wired = record { graph = record { vertices = []; inputs = []; outputs = []; arities = [] }; workers = 0 }

abbrev pub no_side : Side
no_side = record { wired = no_wired; table = no_table; mail = []; requests = []; place = Home; shards = [] }

abbrev pub input_at : Shown → ℕ → InputShown
input_at s i = slice_index_or s.inputs i no_input

abbrev pub side_in : List Side → ℕ → Side
side_in xs k = slice_index_or xs k no_side

abbrev pub side_at : Shown → ℕ → Side
side_at s k = side_in s.sides k

-- the tables by which the workers' events are known
abbrev pub tables : Shown → List TableId
tables s = map (λ (x : Side). x.table) s.sides

-- what a worker holds
abbrev pub held_of : Place Job → Held
held_of Home = Held.nothing
held_of (Out j) = Held.holding false j.happening
held_of (Lost j) = Held.holding true j.happening

-- the vertex of an event
abbrev pub event_at : Graph → Event → ℕ
event_at g (Event.arrival m) = target g m.edge
event_at g (Event.notification n) = n.vertex

-- the vertex of a location
abbrev pub location_vertex : Graph → Location → ℕ
location_vertex g (Location.edge e) = target g e
location_vertex g (Location.vertex v) = v
