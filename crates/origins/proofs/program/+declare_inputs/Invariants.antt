use Rattle.std.proofs.Common.{length}
use Rattle.origins.proofs.program.+declare_inputs.Given as goal

abbrev pub decreases-declare_inputs : goal.decreases-declare_inputs
decreases-declare_inputs l = length l.inputs.now
