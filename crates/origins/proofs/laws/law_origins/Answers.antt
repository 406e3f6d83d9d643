use Rattle.origins.proofs.RelationsHave.{program_stands}
use Rattle.origins.proofs.laws.law_origins.Goals as goal

pub returns : goal.returns
returns c = program_stands
