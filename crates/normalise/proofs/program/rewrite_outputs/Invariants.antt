use Rattle.std.proofs.Common.{◌≡◌, drop, take, map}
use Rattle.std.specs.List.{AllZip}
use Rattle.expr_tree.specs.Plain.{plain_output}
use Rattle.expr_tree.specs.Views.{output_tree}
use Rattle.normalise.specs.Rewritten.{IsRewrittenOutput}
use Rattle.normalise.proofs.program.rewrite_outputs.Given as goal

abbrev pub invariant-loop-output : goal.invariant-loop-output
invariant-loop-output g l = record {
  done : AllZip IsRewrittenOutput (map plain_output (map output_tree (take l.output-index l.output-items))) (map plain_output (map output_tree (take l.output-index l.fn.outputs.items)));
  rest : drop l.output-index l.output-items ≡ drop l.output-index l.fn.outputs.items;
}
