use Rattle.std.proofs.Common.{◌≡◌, map, take}
use Rattle.expr_tree.specs.Plain.{plain_output}
use Rattle.expr_tree.specs.Views.{output_tree}
use Rattle.graph.specs.Views.{number_of_output, name_of_output, vertex_number}
use Rattle.lowering.proofs.outputs.named.Given as goal

abbrev pub invariant-loop-i : goal.invariant-loop-i
invariant-loop-i g l = (map name_of_output l.found.items ≡ map (λ o. o.name) (map plain_output (map output_tree (take l.i l.outputs)))) × (map number_of_output l.found.items ≡ map vertex_number (take l.i l.numbers))
