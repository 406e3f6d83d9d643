use Rattle.grammar.proofs.Conditions.{one_condition}
use Rattle.grammar.proofs.laws.one_condition.Goals as goal

pub returns : goal.returns
returns c = one_condition
