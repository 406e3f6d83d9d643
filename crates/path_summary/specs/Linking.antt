-- The edges of a graph in the form that the making of a table needs.
use Rattle.std.specs.Prelude.{◌≡◌, ℕ, ◌<◌, List, length, Some, slice_get, slice_index_or}
use Rattle.semantics.specs.Time.{Action}
use Rattle.semantics.specs.Kinds.{action}
use Rattle.semantics.specs.Graph.{Graph, vertex, edge_count, target, edge_source}
use Rattle.semantics.specs.Could.{Location}

-- an edge: the vertex that it leaves, the one that it enters, and what the first does to times
pub record Link : Type 0 where
  pub source : ℕ
  pub target : ℕ
  pub acts : Action

-- the depths of the vertices, and the edges, by number
pub record Links : Type 0 where
  pub depths : List ℕ
  pub edges : List Link

-- the link of an edge of the graph
abbrev pub link_in : Graph → ℕ → Link
link_in g e = record { source = (edge_source g e).vertex; target = target g e; acts = action (vertex g (edge_source g e).vertex).kind }

-- these are the depths and the edges of that graph
pub record Draws (w : Links) (g : Graph) : Type 0 where
  pub vertices : length w.depths ≡ length g
  pub depth : (v : ℕ) → v < length g → slice_index_or w.depths v 0 ≡ (vertex g v).depth
  pub edges : length w.edges ≡ edge_count g
  pub edge : (e : ℕ) (k : Link) → slice_get w.edges e ≡ Some k → e < edge_count g → k ≡ link_in g e

-- the value beyond the last edge
abbrev pub no_link : Link
no_link = record { source = 0; target = 0; acts = Action.stay }

-- the edge of that number
abbrev pub link_of : Links → ℕ → Link
link_of w e = slice_index_or w.edges e no_link

-- the vertex from which paths from a location go on
abbrev pub home_in : Links → Location → ℕ
home_in w (Location.edge e) = (link_of w e).target
home_in w (Location.vertex v) = v

-- the location exists
abbrev pub IsKnown : Links → Location → Type 0
IsKnown w (Location.edge e) = e < length w.edges
IsKnown w (Location.vertex v) = v < length w.depths
