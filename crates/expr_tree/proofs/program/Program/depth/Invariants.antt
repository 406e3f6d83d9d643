use Rattle.std.proofs.Common.{◌≡◌, ◌^◌, ◌-◌, map, take, max, min}
use Rattle.semantics.specs.Size.{lets_depth, outputs_depth}
use Rattle.expr_tree.specs.Plain.{plain_let, plain_output}
use Rattle.expr_tree.specs.Views.{let_tree, output_tree}
use Rattle.expr_tree.proofs.program.Program.depth.Given as goal

abbrev pub invariant-loop-item : goal.invariant-loop-item
invariant-loop-item g l = l.deepest ≡ min (lets_depth (map plain_let (map let_tree (take l.item-index l.self.lets.items)))) (2 ^ 64 - 1)

abbrev pub invariant-loop-output : goal.invariant-loop-output
invariant-loop-output g l = l.deepest ≡ min (max (lets_depth (map plain_let (map let_tree l.self.lets.items))) (outputs_depth (map plain_output (map output_tree (take l.output-index l.self.outputs.items))))) (2 ^ 64 - 1)
