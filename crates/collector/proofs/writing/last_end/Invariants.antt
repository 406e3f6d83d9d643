use Rattle.std.proofs.Common.{◌≤◌}
use Rattle.collector.proofs.writing.last_end.Given as goal

abbrev pub invariant-loop-end : goal.invariant-loop-end
invariant-loop-end l = l.end ≤ l.limit

abbrev pub decreases-loop-end : goal.decreases-loop-end
decreases-loop-end l = l.end
