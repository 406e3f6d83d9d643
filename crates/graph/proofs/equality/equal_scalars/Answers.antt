use Rattle.graph.specs.Equality.{scalar_eq}
use Rattle.graph.specs.EqualityLaws.{scalar_decides, list_tested}
use Rattle.graph.proofs.equality.equal_scalars.Goals as goal

pub returns : goal.returns
returns c = list_tested scalar_eq scalar_decides c.same_scalars.result _ _ c.same_scalars.ensures
