use Rattle.std.proofs.Common.{length}
use Rattle.sql.proofs.columns.+push_aggregates.Given as goal

abbrev pub decreases-push_aggregates : goal.decreases-push_aggregates
decreases-push_aggregates l = length l.aggregates.now
