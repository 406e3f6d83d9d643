use Rattle.sql_meaning.proofs.Moderate.{stays_moderate}
use Rattle.sql_meaning.proofs.laws.law_range.Goals as goal

pub returns : goal.returns
returns c = stays_moderate
