use Rattle.sql_meaning.proofs.Plainly.{plain_value}
use Rattle.sql_meaning.proofs.laws.law_plain.Goals as goal

pub returns : goal.returns
returns c = plain_value
