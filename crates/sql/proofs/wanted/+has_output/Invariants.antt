use Rattle.std.proofs.Common.{length}
use Rattle.sql.proofs.wanted.+has_output.Given as goal

abbrev pub decreases-has_output : goal.decreases-has_output
decreases-has_output g l = length l.outputs.now
