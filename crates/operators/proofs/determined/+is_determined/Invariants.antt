use Rattle.std.proofs.Common.{length}
use Rattle.operators.proofs.determined.+is_determined.Given as goal

abbrev pub decreases-is_determined : goal.decreases-is_determined
decreases-is_determined l = length l.scalars.now
