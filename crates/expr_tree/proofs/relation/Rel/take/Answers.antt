use Rattle.std.proofs.Common.{rules}
use Rattle.expr_tree.proofs.relation.Rel.take.Goals as goal

pub returns-clause-moved : goal.returns-clause-moved
returns-clause-moved g c = search rules
