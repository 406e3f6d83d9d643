use Rattle.std.proofs.Common.{length}
use Rattle.path_summary.proofs.summary.+in_order_wide.Given as goal

abbrev pub decreases-in_order_wide : goal.decreases-in_order_wide
decreases-in_order_wide l = length l.counters.now
