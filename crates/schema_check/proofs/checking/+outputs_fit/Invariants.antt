use Rattle.std.proofs.Common.{length}
use Rattle.schema_check.proofs.checking.+outputs_fit.Given as goal

abbrev pub decreases-outputs_fit : goal.decreases-outputs_fit
decreases-outputs_fit g l = length l.outputs.now
