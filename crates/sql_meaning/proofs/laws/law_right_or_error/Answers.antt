use Rattle.sql_meaning.proofs.RightOrError.{plainly_answered}
use Rattle.sql_meaning.proofs.laws.law_right_or_error.Goals as goal

pub returns : goal.returns
returns c = plainly_answered
