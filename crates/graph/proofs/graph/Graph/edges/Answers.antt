use Rattle.std.proofs.Common.{◌≡◌, vec_items, length, subst}
use Rattle.semantics.specs.Graph.{edge_count}
use Rattle.graph.specs.Shown.{shown_graph}
use Rattle.graph.proofs.EdgeTables.{count_edges}
use Rattle.graph.proofs.graph.Graph.edges.Goals as goal

pub returns-clause-count : goal.returns-clause-count
returns-clause-count c =
    rw c.deref.ensures.value (subst (λ v. length (vec_items c.self.inside.edges) ≡ edge_count (shown_graph v)) c.self.view_is (count_edges (vec_items c.self.inside.edges) _ c.self.invariant.1))
