use Rattle.std.proofs.Common.{◌≡◌, [], drop, map}
use Rattle.expr_tree.specs.Views.{output_tree}
use Rattle.typing.specs.Verdict.{each, arities_of, output_verdict}
use Rattle.typing.proofs.program.output_arities.Given as goal

-- what is left decides
abbrev pub invariant-loop-output : goal.invariant-loop-output
invariant-loop-output g l = record {
  names : l.names ≡ l.fn.names;
  arities : l.arities.items ≡ arities_of l.before;
  decides : each (output_verdict l.fn.names) (map output_tree l.outputs) [] ≡ each (output_verdict l.fn.names) (map output_tree (drop l.output-index l.outputs)) l.before;
}
