use Rattle.std.proofs.Common.{length}
use Rattle.sql.proofs.counting.+count_outputs.Given as goal

abbrev pub decreases-count_outputs : goal.decreases-count_outputs
decreases-count_outputs g l = length l.outputs.now
