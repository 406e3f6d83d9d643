use Rattle.semantics.proofs.StepsKeep.{rel_meaning, rel_arity, rel_smaller, rel_normal}
use Rattle.semantics.proofs.normal_forms.law_steps.Goals as goal

pub returns-clause-meaning : goal.returns-clause-meaning
returns-clause-meaning c p q names s = rel_meaning s names

pub returns-clause-arity : goal.returns-clause-arity
returns-clause-arity c p q scope l n s t = rel_arity s scope l n t

pub returns-clause-no_larger : goal.returns-clause-no_larger
returns-clause-no_larger c p q s = rel_smaller s

pub returns-clause-normal : goal.returns-clause-normal
returns-clause-normal c p q n s = rel_normal s n
