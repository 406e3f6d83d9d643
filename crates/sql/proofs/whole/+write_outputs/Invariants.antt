use Rattle.std.proofs.Common.{length}
use Rattle.sql.proofs.whole.+write_outputs.Given as goal

abbrev pub decreases-write_outputs : goal.decreases-write_outputs
decreases-write_outputs g l = length l.outputs.now
