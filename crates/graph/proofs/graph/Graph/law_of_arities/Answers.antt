use Rattle.std.proofs.Common.{vec_items, map, subst}
use Rattle.graph.specs.GraphLaws.{HasProgramArities}
use Rattle.graph.specs.Shown.{shown_arities, shown_graph, shown_inputs}
use Rattle.graph.specs.Views.{graph_of}
use Rattle.record_core.specs.Inputs.{input_of}
use Rattle.graph.proofs.graph.Graph.law_of_arities.Goals as goal

pub returns : goal.returns
returns c =
    let i : ∥ HasProgramArities (graph_of (vec_items c.self.inside.vertices)) (map input_of (vec_items c.self.inside.inputs)) (vec_items c.self.inside.arities) ∥₁ = c.self.invariant.3 in
    subst (λ v. ∥ HasProgramArities (shown_graph v) (shown_inputs v) (shown_arities v) ∥₁) c.self.view_is i
