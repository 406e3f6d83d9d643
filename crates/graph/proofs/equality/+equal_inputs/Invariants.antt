use Rattle.std.proofs.Common.{length}
use Rattle.graph.proofs.equality.+equal_inputs.Given as goal

abbrev pub decreases-equal_inputs : goal.decreases-equal_inputs
decreases-equal_inputs l = length l.left.now
