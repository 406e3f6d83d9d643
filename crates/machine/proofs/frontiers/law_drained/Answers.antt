use Rattle.machine.proofs.PassedEpochs.{drained_exact, drained_passed}
use Rattle.machine.proofs.frontiers.law_drained.Goals as goal

pub returns-clause-exact : goal.returns-clause-exact
returns-clause-exact c = drained_exact

pub returns-clause-passed : goal.returns-clause-passed
returns-clause-passed c = drained_passed
