use Rattle.sql_meaning.proofs.Recursion.{recursion_ends, epochs_end}
use Rattle.sql_meaning.proofs.laws.law_recursion.Goals as goal

pub returns-clause-one : goal.returns-clause-one
returns-clause-one c = recursion_ends

pub returns-clause-epochs : goal.returns-clause-epochs
returns-clause-epochs c = epochs_end
