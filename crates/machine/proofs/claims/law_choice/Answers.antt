use Rattle.machine.proofs.Tracking.{choice_allowed, choice_is_one, choice_all}
use Rattle.machine.proofs.claims.law_choice.Goals as goal

pub returns-clause-allowed : goal.returns-clause-allowed
returns-clause-allowed c = choice_allowed

pub returns-clause-one : goal.returns-clause-one
returns-clause-one c = choice_is_one

pub returns-clause-all : goal.returns-clause-all
returns-clause-all c = choice_all
