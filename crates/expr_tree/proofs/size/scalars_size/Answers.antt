use Rattle.std.proofs.Common.{arith}
use Rattle.std.proofs.lemmas.Grind.{common_steps}
use Rattle.expr_tree.proofs.Sizes.{scalars_size-push}
use Rattle.expr_tree.proofs.size.scalars_size.Goals as goal

pub loop-scalar-preserved : goal.loop-scalar-preserved
loop-scalar-preserved g c = grind (arith, common_steps, scalars_size-push)
