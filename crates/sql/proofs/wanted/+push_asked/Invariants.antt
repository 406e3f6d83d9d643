use Rattle.std.proofs.Common.{length}
use Rattle.sql.proofs.wanted.+push_asked.Given as goal

abbrev pub decreases-push_asked : goal.decreases-push_asked
decreases-push_asked g l = length l.results.now
