use Rattle.sql_meaning.proofs.Remainders.{remainders_wrap}
use Rattle.sql_meaning.proofs.laws.law_wrapped.Goals as goal

pub returns : goal.returns
returns c = remainders_wrap
