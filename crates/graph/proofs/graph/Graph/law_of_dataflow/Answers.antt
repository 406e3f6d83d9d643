use Rattle.std.proofs.Common.{vec_items, subst}
use Rattle.semantics.specs.Dataflow.{IsDataflow}
use Rattle.graph.specs.Shown.{shown_graph}
use Rattle.graph.specs.Views.{graph_of}
use Rattle.graph.proofs.graph.Graph.law_of_dataflow.Goals as goal

pub returns : goal.returns
returns c =
    let i : IsDataflow (graph_of (vec_items c.self.inside.vertices)) = c.self.invariant.4 in
    subst (λ v. IsDataflow (shown_graph v)) c.self.view_is i
