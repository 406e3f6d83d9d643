use Rattle.std.proofs.Common.{length}
use Rattle.lowering.proofs.program.+lower_inputs.Given as goal

abbrev pub decreases-lower_inputs : goal.decreases-lower_inputs
decreases-lower_inputs l = length l.inputs.now
