use Rattle.std.proofs.Common.{vec_items, map, subst}
use Rattle.graph.specs.GraphLaws.{IsProgramGraph}
use Rattle.graph.specs.Shown.{shown_graph, shown_inputs}
use Rattle.graph.specs.Views.{graph_of}
use Rattle.record_core.specs.Inputs.{input_of}
use Rattle.graph.proofs.graph.Graph.law_of_program.Goals as goal

pub returns : goal.returns
returns c =
    let i : ∥ IsProgramGraph (graph_of (vec_items c.self.inside.vertices)) (map input_of (vec_items c.self.inside.inputs)) ∥₁ = c.self.invariant.0 in
    subst (λ v. ∥ IsProgramGraph (shown_graph v) (shown_inputs v) ∥₁) c.self.view_is i
