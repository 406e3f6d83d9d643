use Rattle.std.proofs.Common.{length}
use Rattle.lowering.proofs.program.+lower_outputs.Given as goal

abbrev pub decreases-lower_outputs : goal.decreases-lower_outputs
decreases-lower_outputs g l = length l.outputs.now
