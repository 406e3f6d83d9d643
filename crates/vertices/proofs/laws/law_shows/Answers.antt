use Rattle.vertices.proofs.SameAbsorbed.{Shows_same}
use Rattle.vertices.proofs.laws.law_shows.Goals as goal

pub returns : goal.returns
returns c = Shows_same
