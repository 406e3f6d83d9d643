use Rattle.std.proofs.Common.{length}
use Rattle.query_kinds.proofs.tables.+push_constants.Given as goal

abbrev pub decreases-push_constants : goal.decreases-push_constants
decreases-push_constants l = length l.constants.now
