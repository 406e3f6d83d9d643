use Rattle.std.proofs.Common.{rules}
use Rattle.expr_tree.proofs.sameness.same.Goals as goal

pub returns-then-same_lets : goal.returns-then-same_lets
returns-then-same_lets g c = search rules

pub returns-else-same_lets : goal.returns-else-same_lets
returns-else-same_lets g c = search rules
