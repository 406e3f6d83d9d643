use Rattle.expr_tree.specs.Parts.{scalar_weight}
use Rattle.expr_tree.proofs.scalar.Scalar.drop.Given as goal

abbrev pub decreases-loop-self : goal.decreases-loop-self
decreases-loop-self g l = scalar_weight l.self
