use Rattle.std.proofs.Common.{length}
use Rattle.sql.proofs.columns.+push_more_keys.Given as goal

abbrev pub decreases-push_more_keys : goal.decreases-push_more_keys
decreases-push_more_keys l = length l.keys.now
