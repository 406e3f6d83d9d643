use Rattle.std.proofs.Common.{◌≡◌, map, take}
use Rattle.graph.specs.Views.{graph_of, name_of_output, number_of_output}
use Rattle.graph_text.specs.Text.{lines, name_beside}
use Rattle.graph_text.proofs.text.all_lines.Given as goal

abbrev pub invariant-loop-i : goal.invariant-loop-i
invariant-loop-i l = l.text.items ≡ lines 0 (graph_of (take l.i l.vertices)) (name_beside (map number_of_output l.outputs) (map name_of_output l.outputs))
