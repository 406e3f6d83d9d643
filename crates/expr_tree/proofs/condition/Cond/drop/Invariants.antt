use Rattle.expr_tree.specs.Parts.{cond_weight}
use Rattle.expr_tree.proofs.condition.Cond.drop.Given as goal

abbrev pub decreases-loop-self : goal.decreases-loop-self
decreases-loop-self g l = cond_weight l.self
