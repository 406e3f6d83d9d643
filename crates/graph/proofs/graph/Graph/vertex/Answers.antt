use Rattle.std.proofs.Common.{◌<◌, length, ap, arith}
use Rattle.graph.proofs.Numbers.{length_graph_of, vertex_at}
use Rattle.graph.proofs.graph.Graph.vertex.Goals as goal

pub returns : goal.returns
returns c =
    let vs = c.vertices-vertices.result.now in
    let l : c.args.id.0 < length c.vertices-vertices.result.now = omega (arith, c.requires, length_graph_of vs, ap length c.vertices-vertices.ensures.value) in
    rw c.vertices-vertices.ensures.value at (vertex_at vs c.args.id.0 c.index-vertices-number.result l c.index-vertices-number.is)
