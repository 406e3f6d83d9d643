use Rattle.std.proofs.Common.{rules}
use Rattle.expr_tree.proofs.evaluation.compare.Goals as goal

pub returns-in-AtMost : goal.returns-in-AtMost
returns-in-AtMost c = search rules
