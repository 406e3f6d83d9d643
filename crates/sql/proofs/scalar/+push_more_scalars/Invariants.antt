use Rattle.std.proofs.Common.{length}
use Rattle.sql.proofs.scalar.+push_more_scalars.Given as goal

abbrev pub decreases-push_more_scalars : goal.decreases-push_more_scalars
decreases-push_more_scalars g l = length l.scalars.now
