use Rattle.std.proofs.Common.{◌<◌, subst}
use Rattle.graph.specs.Locations.{location_of}
use Rattle.progress.specs.TimeCounts.{TimeCounts, count}
use Rattle.progress.specs.Kept.{stamp}
use Rattle.progress.proofs.located.is_clear_at.Goals as goal

pub is_clear_in-requires-clause-known : goal.is_clear_in-requires-clause-known
is_clear_in-requires-clause-known c = λ t h. c.requires.known (stamp (location_of c.args.location) t) (subst (λ (b : TimeCounts). 0 < count b t) c.in-Some.ensures.some h)
