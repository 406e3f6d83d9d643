use Rattle.machine.proofs.PassedEpochs.{passed_stays}
use Rattle.machine.proofs.frontiers.law_passed.Goals as goal

pub returns : goal.returns
returns c = passed_stays
