use Rattle.std.proofs.Common.{◌≡◌, map, take}
use Rattle.graph.specs.Edges.{edge_list, edge_of}
use Rattle.graph.specs.Views.{graph_of}
use Rattle.graph.proofs.edges.edges_of.Given as goal

abbrev pub invariant-loop-i : goal.invariant-loop-i
invariant-loop-i l = map edge_of l.edges.items ≡ edge_list 0 (graph_of (take l.i l.vertices))
