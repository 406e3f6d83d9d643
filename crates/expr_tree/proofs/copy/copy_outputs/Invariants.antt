use Rattle.std.proofs.Common.{◌≡◌, map, take}
use Rattle.expr_tree.specs.Views.{output_tree}
use Rattle.expr_tree.proofs.copy.copy_outputs.Given as goal

abbrev pub invariant-loop-output : goal.invariant-loop-output
invariant-loop-output g l = map output_tree l.copy.items ≡ map output_tree (take l.output-index l.outputs.items)
