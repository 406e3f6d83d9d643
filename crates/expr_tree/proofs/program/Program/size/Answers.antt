use Rattle.std.proofs.Common.{arith}
use Rattle.std.proofs.lemmas.Grind.{common_steps}
use Rattle.expr_tree.proofs.Sizes.{lets_size-push, outputs_size-push}
use Rattle.expr_tree.proofs.program.Program.size.Goals as goal

pub loop-item-preserved : goal.loop-item-preserved
loop-item-preserved g c = grind (arith, common_steps, lets_size-push)

pub loop-output-preserved : goal.loop-output-preserved
loop-output-preserved g c = grind (arith, common_steps, outputs_size-push)

pub returns : goal.returns
returns g c = grind (arith, common_steps)
