use Rattle.std.proofs.Common.{length}
use Rattle.operators.proofs.group.+push_weighed.Given as goal

abbrev pub decreases-push_weighed : goal.decreases-push_weighed
decreases-push_weighed l = length l.aggregates.now
