use Rattle.std.proofs.Common.{rules}
use Rattle.lowering.proofs.arities.sent_arity.Goals as goal

pub returns-in-Join : goal.returns-in-Join
returns-in-Join c = search rules
