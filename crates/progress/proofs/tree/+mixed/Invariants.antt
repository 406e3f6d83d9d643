use Rattle.std.proofs.Common.{length}
use Rattle.progress.proofs.tree.+mixed.Given as goal

abbrev pub decreases-mixed : goal.decreases-mixed
decreases-mixed l = length l.counters.now
