use Rattle.std.proofs.Common.{length}
use Rattle.sql.proofs.columns.+push_more_pairs.Given as goal

abbrev pub decreases-push_more_pairs : goal.decreases-push_more_pairs
decreases-push_more_pairs l = length l.pairs.now
