use Rattle.graph.specs.Equality.{agg_eq}
use Rattle.graph.specs.EqualityLaws.{agg_decides, list_tested}
use Rattle.graph.proofs.equality.equal_aggs.Goals as goal

pub returns : goal.returns
returns c = list_tested agg_eq agg_decides c.same_aggs.result _ _ c.same_aggs.ensures
