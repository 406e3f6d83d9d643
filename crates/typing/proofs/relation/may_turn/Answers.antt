use Rattle.std.proofs.Common.{refl}
use Rattle.typing.proofs.relation.may_turn.Goals as goal

pub returns : goal.returns
returns c = refl
