use Rattle.origins.proofs.Different.{program-different}
use Rattle.origins.proofs.laws.law_different_sources.Goals as goal

pub returns : goal.returns
returns c = program-different
