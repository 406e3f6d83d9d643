use Rattle.expr_tree.specs.Parts.{rel_weight}
use Rattle.expr_tree.proofs.relation.Rel.drop.Given as goal

abbrev pub decreases-loop-self : goal.decreases-loop-self
decreases-loop-self g l = rel_weight l.self
