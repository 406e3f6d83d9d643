use Rattle.std.proofs.Common.{rules}
use Rattle.lowering.proofs.lowered.declared_input.Goals as goal

pub returns : goal.returns
returns c = search rules
