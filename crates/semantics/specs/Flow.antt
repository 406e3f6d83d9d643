-- Flows: what each edge of a graph has at each time, by equations only: no order, messages or workers.
use Rattle.std.specs.Prelude.{◌≡◌, ℕ, ◌<◌, List, flat_map, length}
use Rattle.semantics.specs.Multiset.{Record, ◌≈◌}
use Rattle.semantics.specs.Time.{Time, times_before}
use Rattle.semantics.specs.Kinds.{Kind, action}
use Rattle.semantics.specs.Graph.{Port, Graph, vertex, source, target, in_port}
use Rattle.semantics.specs.Op.{reads, op}

-- the records of each input at each epoch
abbrev pub Inputs : Type 0
Inputs = (input epoch : ℕ) → List Record

-- what each edge has at each time, by the vertex that it enters, the in port and the time
abbrev pub Flow : Type 0
Flow = (vertex port : ℕ) → Time → List Record

-- what a vertex of that kind sends from a port at u: the sum over the times that its action takes to u
abbrev pub sent_by : Kind → Flow → ℕ → ℕ → Time → List Record
sent_by kind f v out u = flat_map (λ t. op kind t (reads kind (f v) t) out) (times_before (action kind) u)

-- what a vertex sends: an input sends its records, any other vertex what its equation gives
abbrev pub sent_or_fed : Inputs → Kind → Flow → ℕ → ℕ → Time → List Record
sent_or_fed inputs Kind.input f v out u = inputs v u.epoch
sent_or_fed inputs kind f v out u = sent_by kind f v out u

-- what leaves a port at u
unfoldable pub port_flow : Graph → Inputs → Flow → Port → Time → List Record
port_flow g inputs f p u = sent_or_fed inputs (vertex g p.vertex).kind f p.vertex p.out u

-- an edge of the graph and a time of its depth
pub record IsEdgeTime (g : Graph) (w i : ℕ) (u : Time) : Type 0 where
  pub is_vertex : w < length g
  pub is_port : i < length (vertex g w).ins
  pub has_depth : length u.counters ≡ (vertex g w).depth

-- each edge has at each time what leaves the port at which it begins
pub record IsFlow (g : Graph) (inputs : Inputs) (f : Flow) : Type 0 where
  pub equations : (w i : ℕ) (u : Time) → IsEdgeTime g w i u → f w i u ≈ port_flow g inputs f (source g w i) u

-- f is the only flow, up to the order of its lists
pub record IsOnlyFlow (g : Graph) (inputs : Inputs) (f : Flow) : Type 0 where
  pub is_flow : IsFlow g inputs f
  pub only : (h : Flow) → IsFlow g inputs h → (w i : ℕ) (u : Time) → IsEdgeTime g w i u → h w i u ≈ f w i u

-- there is exactly one flow
pub record HasOneFlow (g : Graph) (inputs : Inputs) : Type 0 where
  pub flow : Flow
  pub is_only : IsOnlyFlow g inputs flow

-- what a flow has on an edge, by its number
abbrev pub edge_flow : Graph → Flow → (edge : ℕ) → Time → List Record
edge_flow g f e t = f (target g e) (in_port g e) t
