use Rattle.grammar.proofs.Scalars.{one_scalar}
use Rattle.grammar.proofs.laws.one_scalar.Goals as goal

pub returns : goal.returns
returns c = one_scalar
