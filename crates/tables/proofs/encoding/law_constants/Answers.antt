use Rattle.tables.proofs.Joined.{constants-first}
use Rattle.tables.proofs.encoding.law_constants.Goals as goal

pub returns : goal.returns
returns c = constants-first
