use Rattle.std.proofs.Common.{take}
use Rattle.expr_tree.specs.Views.{output_tree}
use Rattle.grammar.specs.Texts.{max_height}
use Rattle.writer.specs.Programs.{output_height}
use Rattle.writer.specs.Sources.{Each, IsOutputSource}
use Rattle.writer.proofs.Checks.{Fits}
use Rattle.writer.proofs.source.outputs_fit.Given as goal

abbrev pub invariant-loop-output : goal.invariant-loop-output
invariant-loop-output g l = Each (Fits output_tree IsOutputSource output_height max_height) (take l.output-index l.outputs)
