use Rattle.std.proofs.Common.{length}
use Rattle.graph.proofs.equality.+same_outputs.Given as goal

abbrev pub decreases-same_outputs : goal.decreases-same_outputs
decreases-same_outputs l = length l.left.now
