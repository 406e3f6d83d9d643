use Rattle.std.proofs.Common.{nat_eq}
use Rattle.std.proofs.lemmas.Bool.Decides.{Decides-eqb}
use Rattle.graph.specs.EqualityLaws.{list_tested}
use Rattle.graph.proofs.equality.equal_columns.Goals as goal

pub returns : goal.returns
returns c = list_tested nat_eq Decides-eqb c.same_columns.result _ _ c.same_columns.ensures
