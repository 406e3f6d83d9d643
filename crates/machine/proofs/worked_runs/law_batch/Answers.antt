use Rattle.machine.proofs.WorkedRuns.{batch_to_0, batch_to_1}
use Rattle.machine.proofs.worked_runs.law_batch.Goals as goal

pub returns-clause-to_0 : goal.returns-clause-to_0
returns-clause-to_0 c = batch_to_0

pub returns-clause-to_1 : goal.returns-clause-to_1
returns-clause-to_1 c = batch_to_1
