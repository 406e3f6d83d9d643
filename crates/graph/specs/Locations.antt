-- Places of a graph.
use Rattle.std.specs.Prelude.{ℕ, ◌<◌, length}
use Rattle.semantics.specs.Could as semantics
use Rattle.semantics.specs.Graph.{Graph, edge_count, target, vertex}
use Rattle.graph.specs.declared.location.Location.{Location}
use Rattle.graph.specs.declared.location.Location.TheVariants.{Edge, Vertex}

-- the definition's place
abbrev pub location_of : Location → semantics.Location
location_of (Edge e) = semantics.Location.edge e.0
location_of (Vertex v) = semantics.Location.vertex v.0

-- the graph has the place
abbrev pub IsIn : Graph → semantics.Location → Type 0
IsIn g (semantics.Location.edge e) = e < edge_count g
IsIn g (semantics.Location.vertex v) = v < length g

-- the number of counters of the times there
abbrev pub depth_of : Graph → semantics.Location → ℕ
depth_of g (semantics.Location.edge e) = (vertex g (target g e)).depth
depth_of g (semantics.Location.vertex v) = (vertex g v).depth
