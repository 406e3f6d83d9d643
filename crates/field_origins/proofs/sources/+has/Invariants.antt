use Rattle.std.proofs.Common.{length}
use Rattle.field_origins.proofs.sources.+has.Given as goal

abbrev pub decreases-has : goal.decreases-has
decreases-has l = length l.sources.now
