use Rattle.sql_meaning.proofs.Unwanted.{unwanted}
use Rattle.sql_meaning.proofs.laws.law_wanted.Goals as goal

pub returns : goal.returns
returns c = unwanted
