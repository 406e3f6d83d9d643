-- The edges of a graph in memory.
use Rattle.std.specs.Prelude.{ℕ, suc, nat_eq, Bool, ◌&&◌, List, [], ◌∷◌, ◌++◌}
use Rattle.semantics.specs.Graph.{Port, no_port, Graph}
use Rattle.graph.specs.Views.{port_of}
use Rattle.graph.specs.declared.edges.Edge.{Edge}

-- where an edge begins, the vertex that it enters, and the in port
pub record Ends : Type 0 where
  pub source : Port
  pub target : ℕ
  pub in_port : ℕ

abbrev pub ends : Port → ℕ → ℕ → Ends
ends p w i = record { source = p; target = w; in_port = i }

-- what stands beyond the last edge
abbrev pub no_ends : Ends
no_ends = ends no_port 0 0

-- of an edge in memory
abbrev pub edge_of : Edge → Ends
edge_of e = ends (port_of e.source) e.target.0 e.in_port

-- the edges into the in ports of w from i on, which these ports feed
abbrev pub entering : ℕ → ℕ → List Port → List Ends
entering w i [] = []
entering w i (p ∷ ps) = ends p w i ∷ entering w (suc i) ps

-- the edges into these vertices, which are numbered from n on
abbrev pub edge_list : ℕ → Graph → List Ends
edge_list n [] = []
edge_list n (x ∷ g) = entering n 0 x.ins ++ edge_list (suc n) g

abbrev pub same_port : Port → Port → Bool
same_port p q = nat_eq p.vertex q.vertex && nat_eq p.out q.out
