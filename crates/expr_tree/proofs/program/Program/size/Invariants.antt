use Rattle.std.proofs.Common.{◌≡◌, ◌^◌, ◌-◌, ◌+◌, map, take, min}
use Rattle.semantics.specs.Size.{lets_size, outputs_size}
use Rattle.expr_tree.specs.Plain.{plain_let, plain_output}
use Rattle.expr_tree.specs.Views.{let_tree, output_tree}
use Rattle.expr_tree.proofs.program.Program.size.Given as goal

abbrev pub invariant-loop-item : goal.invariant-loop-item
invariant-loop-item g l = l.size ≡ min (lets_size (map plain_let (map let_tree (take l.item-index l.self.lets.items)))) (2 ^ 64 - 1)

abbrev pub invariant-loop-output : goal.invariant-loop-output
invariant-loop-output g l = l.size ≡ min (lets_size (map plain_let (map let_tree l.self.lets.items)) + outputs_size (map plain_output (map output_tree (take l.output-index l.self.outputs.items)))) (2 ^ 64 - 1)
