-- The vertices of a graph in memory by their numbers.
use Rattle.std.proofs.Common.{◌≡◌, ℕ, zero, suc, ◌<◌, ◌≤◌, List, [], ◌∷◌, length, refl, ap, ap₂, ◌∙◌, arith, get_or, slice_index_or}
use Rattle.semantics.specs.Graph as graph
use Rattle.graph.specs.Views.{graph_of, sources_of, vertex_of}
use Rattle.graph.specs.declared.vertex.Sources.{Sources}
use Rattle.graph.specs.declared.vertex.Sources.TheVariants.{Nothing, One, Two}
use Rattle.graph.specs.declared.vertex.Vertex.{Vertex}

pub length_graph_of : (vs : List Vertex) → length (graph_of vs) ≡ length vs
length_graph_of [] = refl
length_graph_of (v ∷ vs) = ap suc (length_graph_of vs)

read_at : (vs : List Vertex) (i : ℕ) (v : Vertex) → i < length vs → v ≡ get_or vs i v → vertex_of v ≡ slice_index_or (graph_of vs) i graph.no_vertex
read_at [] i v h e = absurd (omega arith)
read_at (w ∷ vs) zero v h e = ap vertex_of e
read_at (w ∷ vs) (suc i) v h e = read_at vs i v (omega arith) e

-- the vertex of a number
pub vertex_at : (vs : List Vertex) (i : ℕ) (v : Vertex) → i < length vs → v ≡ get_or vs i v → vertex_of v ≡ graph.vertex (graph_of vs) i
unfolding graph.vertex
vertex_at vs i v h e = read_at vs i v h e

-- ---- what feeds a vertex

pub few_sources : (x : Sources) → length (sources_of x) ≤ 2
few_sources Nothing = omega arith
few_sources (One p) = omega arith
few_sources (Two p q) = omega arith

pub feeds : (g : graph.Graph) (v i j : ℕ) (x : Vertex) (p : graph.Port) → vertex_of x ≡ graph.vertex g v → p ≡ slice_index_or (sources_of x.ins) j graph.no_port → j ≡ i → p ≡ graph.source g v i
unfolding graph.source
feeds g v i j x p e q h = q ∙ ap₂ (λ (y : graph.Vertex) k. slice_index_or y.ins k graph.no_port) e h
