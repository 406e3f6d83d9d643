use Rattle.machine.proofs.PassedOutputs.{passed_below}
use Rattle.machine.proofs.frontiers.law_passed_below.Goals as goal

pub returns : goal.returns
returns c = passed_below
