-- Dataflow graphs: vertices by number, each with the ports that feed it. (Naiad, SOSP 2013, section 2.1.)
use Rattle.std.specs.Prelude.{ℕ, zero, suc, ◌+◌, ◌-◌, nat_lt, cond, List, [], ◌∷◌, length, slice_index_or}
use Rattle.semantics.specs.Kinds.{Kind, is_input, is_output}

-- an out port of a vertex
pub record Port : Type 0 where
  pub vertex : ℕ
  pub out : ℕ

-- `ins` are the ports that feed the in ports, in order
pub record Vertex : Type 0 where
  pub kind : Kind
  pub depth : ℕ
  pub ins : List Port

-- the vertices by number
abbrev pub Graph : Type 0
Graph = List Vertex

-- the value beyond the last vertex
abbrev pub no_vertex : Vertex
no_vertex = record { kind = Kind.output; depth = 0; ins = [] }

-- the value beyond the last in port
abbrev pub no_port : Port
no_port = record { vertex = 0; out = 0 }

-- the vertex of that number
unfoldable pub vertex : Graph → ℕ → Vertex
vertex g v = slice_index_or g v no_vertex

-- the number of inputs: the vertices before the first that isn't an input
abbrev pub input_count : Graph → ℕ
input_count [] = 0
input_count (x ∷ g) = cond (is_input x.kind) (suc (input_count g)) 0

-- the numbers of the output vertices, in order; the first vertex of the list has the number k
abbrev pub outputs_from : (k : ℕ) → List Vertex → List ℕ
outputs_from k [] = []
outputs_from k (x ∷ xs) = cond (is_output x.kind) (k ∷ outputs_from (suc k) xs) (outputs_from (suc k) xs)

-- the numbers of the output vertices, in order
abbrev pub output_numbers : Graph → List ℕ
output_numbers g = outputs_from 0 g

-- the vertex number of an output, by the output's place; for a place beyond the last, a number that no vertex has
abbrev pub output_number : Graph → (output : ℕ) → ℕ
output_number g k = slice_index_or (output_numbers g) k (length g)

-- ---- edges: an edge is given by the vertex that it enters and the in port, or by a number, in the order of these two

-- the port at which the edge into an in port of w begins
unfoldable pub source : Graph → (w port : ℕ) → Port
unfolding vertex
source g w i = slice_index_or (vertex g w).ins i no_port

-- the number of edges
abbrev pub edge_count : Graph → ℕ
edge_count [] = 0
edge_count (x ∷ g) = length x.ins + edge_count g

-- the vertex that an edge enters
abbrev pub target : Graph → (edge : ℕ) → ℕ
target [] e = 0
target (x ∷ g) e = cond (nat_lt e (length x.ins)) 0 (suc (target g (e - length x.ins)))

-- the in port by which it enters
abbrev pub in_port : Graph → (edge : ℕ) → ℕ
in_port [] e = 0
in_port (x ∷ g) e = cond (nat_lt e (length x.ins)) e (in_port g (e - length x.ins))

-- the edge into an in port of a vertex
abbrev pub edge_into : Graph → (vertex port : ℕ) → ℕ
edge_into [] v p = p
edge_into (x ∷ g) zero p = p
edge_into (x ∷ g) (suc v) p = length x.ins + edge_into g v p

-- the port at which an edge begins
abbrev pub edge_source : Graph → (edge : ℕ) → Port
edge_source g e = source g (target g e) (in_port g e)
