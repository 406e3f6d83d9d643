use Rattle.std.proofs.Common.{length}
use Rattle.field_origins.proofs.sources.+same_origins.Given as goal

abbrev pub decreases-same_origins : goal.decreases-same_origins
decreases-same_origins l = length l.left.now
