use Rattle.std.proofs.Common.{rules}
use Rattle.std.proofs.lemmas.Int.{wraps}
use Rattle.expr_tree.proofs.evaluation.negated.Goals as goal

pub returns : goal.returns
returns c = λ r. search (rules, wraps)
