use Rattle.std.proofs.Common.{rules}
use Rattle.std.proofs.lemmas.Int.{wraps}
use Rattle.expr_tree.proofs.evaluation.operate.Goals as goal

pub returns-in-Add : goal.returns-in-Add
returns-in-Add c = λ r. search (rules, wraps)

pub returns-in-Subtract : goal.returns-in-Subtract
returns-in-Subtract c = λ r. search (rules, wraps)
