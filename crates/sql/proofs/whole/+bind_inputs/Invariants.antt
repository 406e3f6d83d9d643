use Rattle.std.proofs.Common.{length}
use Rattle.sql.proofs.whole.+bind_inputs.Given as goal

abbrev pub decreases-bind_inputs : goal.decreases-bind_inputs
decreases-bind_inputs l = length l.inputs.now
