use Rattle.machine.proofs.PassedEpochs.{none_before_stays, no_other_stays}
use Rattle.machine.proofs.frontiers.law_frontier.Goals as goal

pub returns-clause-none_before : goal.returns-clause-none_before
returns-clause-none_before c = none_before_stays

pub returns-clause-no_other_before : goal.returns-clause-no_other_before
returns-clause-no_other_before c = no_other_stays
