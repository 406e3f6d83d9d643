use Rattle.std.proofs.Common.{length}
use Rattle.query_kinds.proofs.listing.+push_outputs.Given as goal

abbrev pub decreases-push_outputs : goal.decreases-push_outputs
decreases-push_outputs g l = length l.outputs.now
