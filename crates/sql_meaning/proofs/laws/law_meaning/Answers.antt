use Rattle.sql_meaning.proofs.Programs.{script_means}
use Rattle.sql_meaning.proofs.laws.law_meaning.Goals as goal

pub returns : goal.returns
returns c = script_means
