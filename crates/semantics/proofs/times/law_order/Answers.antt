use Rattle.semantics.proofs.CouldRises.{at_most_refl, at_most_trans, at_most_after}
use Rattle.semantics.proofs.times.law_order.Goals as goal

pub returns-clause-itself : goal.returns-clause-itself
returns-clause-itself c = at_most_refl

pub returns-clause-onward : goal.returns-clause-onward
returns-clause-onward c = at_most_trans

pub returns-clause-after_action : goal.returns-clause-after_action
returns-clause-after_action c = at_most_after
