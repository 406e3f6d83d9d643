use Rattle.sql_meaning.proofs.Orderless.{any_order}
use Rattle.sql_meaning.proofs.laws.law_any_order.Goals as goal

pub returns : goal.returns
returns c = any_order
