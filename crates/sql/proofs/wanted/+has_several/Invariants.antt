use Rattle.std.proofs.Common.{length}
use Rattle.sql.proofs.wanted.+has_several.Given as goal

abbrev pub decreases-has_several : goal.decreases-has_several
decreases-has_several g l = length l.outputs.now
