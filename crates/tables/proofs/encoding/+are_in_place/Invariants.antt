use Rattle.std.proofs.Common.{length}
use Rattle.tables.proofs.encoding.+are_in_place.Given as goal

abbrev pub decreases-are_in_place : goal.decreases-are_in_place
decreases-are_in_place l = length l.constants.now
