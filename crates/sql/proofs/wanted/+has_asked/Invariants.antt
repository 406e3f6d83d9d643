use Rattle.std.proofs.Common.{length}
use Rattle.sql.proofs.wanted.+has_asked.Given as goal

abbrev pub decreases-has_asked : goal.decreases-has_asked
decreases-has_asked g l = length l.outputs.now
