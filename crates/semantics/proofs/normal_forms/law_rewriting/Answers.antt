use Rattle.semantics.proofs.StepsKeep.{steps_then, rewrites_inputs, rewrites_names, rewrites_meaning, rewrites_typed, rewrites_smaller, program_normal}
use Rattle.semantics.proofs.normal_forms.law_rewriting.Goals as goal

pub returns-clause-inputs : goal.returns-clause-inputs
returns-clause-inputs c p q s = rewrites_inputs s

pub returns-clause-names : goal.returns-clause-names
returns-clause-names c p q s = rewrites_names s

pub returns-clause-meaning : goal.returns-clause-meaning
returns-clause-meaning c p q output records s = rewrites_meaning s output records

pub returns-clause-typed : goal.returns-clause-typed
returns-clause-typed c p q ns s w = rewrites_typed s ns w

pub returns-clause-no_larger : goal.returns-clause-no_larger
returns-clause-no_larger c p q s = rewrites_smaller s

pub returns-clause-composed : goal.returns-clause-composed
returns-clause-composed c p q r s t = steps_then s t

pub returns-clause-normal : goal.returns-clause-normal
returns-clause-normal c p q n s = program_normal s n
