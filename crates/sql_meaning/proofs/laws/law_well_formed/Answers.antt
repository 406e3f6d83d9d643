use Rattle.sql_meaning.proofs.Formed.{script_formed}
use Rattle.sql_meaning.proofs.laws.law_well_formed.Goals as goal

pub returns : goal.returns
returns c = script_formed
