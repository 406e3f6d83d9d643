use Rattle.std.proofs.Common.{◌≡◌, map, take}
use Rattle.semantics.specs.Graph.{output_numbers}
use Rattle.graph.specs.Views.{graph_of, vertex_number}
use Rattle.lowering.proofs.outputs.output_vertices.Given as goal

abbrev pub invariant-loop-i : goal.invariant-loop-i
invariant-loop-i l = map vertex_number l.numbers.items ≡ output_numbers (graph_of (take l.i l.vertices))
