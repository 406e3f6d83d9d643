use Rattle.sql_meaning.proofs.Counted.{script_counted}
use Rattle.sql_meaning.proofs.laws.law_count.Goals as goal

pub returns : goal.returns
returns c = script_counted
