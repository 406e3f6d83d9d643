use Rattle.semantics.proofs.LeastAndGreatest.{least_below, least_present, greatest_above, greatest_present}
use Rattle.semantics.proofs.meanings.law_least_and_greatest.Goals as goal

pub returns-clause-least : goal.returns-clause-least
returns-clause-least c = least_below

pub returns-clause-least_is_there : goal.returns-clause-least_is_there
returns-clause-least_is_there c = least_present

pub returns-clause-greatest : goal.returns-clause-greatest
returns-clause-greatest c = greatest_above

pub returns-clause-greatest_is_there : goal.returns-clause-greatest_is_there
returns-clause-greatest_is_there c = greatest_present
