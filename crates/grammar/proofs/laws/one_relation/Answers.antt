use Rattle.grammar.proofs.Relations.{one_relation}
use Rattle.grammar.proofs.laws.one_relation.Goals as goal

pub returns : goal.returns
returns c = one_relation
