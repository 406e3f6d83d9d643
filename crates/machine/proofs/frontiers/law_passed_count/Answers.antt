use Rattle.machine.proofs.PassedEpochs.{network_count_one, count_rises}
use Rattle.machine.proofs.frontiers.law_passed_count.Goals as goal

pub returns-clause-one : goal.returns-clause-one
returns-clause-one c = network_count_one

pub returns-clause-stays : goal.returns-clause-stays
returns-clause-stays c = count_rises
