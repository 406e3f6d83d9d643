use Rattle.semantics.proofs.RulesKeepMeaning.{value-plus, value-minus, value-times, value-negated}
use Rattle.semantics.proofs.normal_forms.law_parts_of_scalars.Goals as goal

pub returns-clause-plus : goal.returns-clause-plus
returns-clause-plus c = value-plus

pub returns-clause-minus : goal.returns-clause-minus
returns-clause-minus c = value-minus

pub returns-clause-times : goal.returns-clause-times
returns-clause-times c = value-times

pub returns-clause-negation : goal.returns-clause-negation
returns-clause-negation c = value-negated
