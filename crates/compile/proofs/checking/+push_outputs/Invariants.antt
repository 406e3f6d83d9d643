use Rattle.std.proofs.Common.{length}
use Rattle.compile.proofs.checking.+push_outputs.Given as goal

abbrev pub decreases-push_outputs : goal.decreases-push_outputs
decreases-push_outputs g l = length l.outputs.now
