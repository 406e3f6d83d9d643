use Rattle.semantics.proofs.EdgeNumbers.{entered}
use Rattle.graph.specs.Shown.{shown_graph}
use Rattle.graph.proofs.graph.Graph.depth_at.Goals as goal

pub vertex-requires : goal.vertex-requires
vertex-requires c =
    let h = rw c.in-Edge.is at c.requires in
    rw c.edge.ensures.target ((entered (shown_graph c.args.self.now) c.in-Edge.edge.0 h).known)
