use Rattle.graph.specs.Equality.{pair_eq}
use Rattle.graph.specs.EqualityLaws.{pair_decides, list_tested}
use Rattle.graph.proofs.equality.equal_pairs.Goals as goal

pub returns : goal.returns
returns c = list_tested pair_eq pair_decides c.same_pairs.result _ _ c.same_pairs.ensures
