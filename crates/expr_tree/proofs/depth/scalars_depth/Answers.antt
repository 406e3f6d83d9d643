use Rattle.std.proofs.Common.{arith}
use Rattle.std.proofs.lemmas.Grind.{common_steps}
use Rattle.expr_tree.proofs.Sizes.{scalars_depth-push}
use Rattle.expr_tree.proofs.depth.scalars_depth.Goals as goal

pub loop-scalar-preserved : goal.loop-scalar-preserved
loop-scalar-preserved g c = grind (arith, common_steps, scalars_depth-push)
