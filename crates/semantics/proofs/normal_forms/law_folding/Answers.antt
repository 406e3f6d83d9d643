use Rattle.semantics.proofs.RulesKeepMeaning.{fold-plus, fold-minus, fold-times, fold-negated}
use Rattle.semantics.proofs.normal_forms.law_folding.Goals as goal

pub returns-clause-plus : goal.returns-clause-plus
returns-clause-plus c = fold-plus

pub returns-clause-minus : goal.returns-clause-minus
returns-clause-minus c = fold-minus

pub returns-clause-times : goal.returns-clause-times
returns-clause-times c = fold-times

pub returns-clause-negation : goal.returns-clause-negation
returns-clause-negation c = fold-negated
