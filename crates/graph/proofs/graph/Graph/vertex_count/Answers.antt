use Rattle.std.proofs.Common.{length, ap, sym, ◌∙◌}
use Rattle.graph.proofs.Numbers.{length_graph_of}
use Rattle.graph.proofs.graph.Graph.vertex_count.Goals as goal

pub returns-clause-value : goal.returns-clause-value
returns-clause-value c =
    sym (length_graph_of c.vertices.result.now) ∙ ap length c.vertices.ensures.value
