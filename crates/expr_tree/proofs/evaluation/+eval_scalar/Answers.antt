use Rattle.std.proofs.Common.{arith}
use Rattle.std.proofs.lemmas.Int.{to_z-of_z}
use Rattle.expr_tree.proofs.Wraps.{value_operator, value_negation}
use Rattle.expr_tree.proofs.evaluation.+eval_scalar.Goals as goal

pub returns-in-Binary : goal.returns-in-Binary
returns-in-Binary g t c = grind (arith, to_z-of_z, c.operate.ensures c.args.record.now, value_operator)

pub returns-in-Negate : goal.returns-in-Negate
returns-in-Negate g t c = grind (arith, to_z-of_z, c.negated.ensures c.args.record.now, value_negation)
