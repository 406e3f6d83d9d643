use Rattle.std.proofs.Common.{rules}
use Rattle.expr_tree.proofs.evaluation.+holds.Goals as goal

pub returns-then-holds-2 : goal.returns-then-holds-2
returns-then-holds-2 g t c = search rules

pub returns-else-holds-2 : goal.returns-else-holds-2
returns-else-holds-2 g t c = search rules
