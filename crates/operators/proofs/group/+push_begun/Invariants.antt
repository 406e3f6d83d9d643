use Rattle.std.proofs.Common.{length}
use Rattle.operators.proofs.group.+push_begun.Given as goal

abbrev pub decreases-push_begun : goal.decreases-push_begun
decreases-push_begun l = length l.aggregates.now
