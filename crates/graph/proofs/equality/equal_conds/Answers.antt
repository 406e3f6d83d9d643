use Rattle.graph.specs.EqualityLaws.{cond_tested}
use Rattle.graph.proofs.equality.equal_conds.Goals as goal

pub returns : goal.returns
returns c = cond_tested c.same_cond.result _ _ c.same_cond.ensures
