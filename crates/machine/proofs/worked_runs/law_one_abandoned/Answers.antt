use Rattle.machine.proofs.WorkedRuns.{one_abandoned_run, one_abandoned_open}
use Rattle.machine.proofs.worked_runs.law_one_abandoned.Goals as goal

pub returns-clause-run : goal.returns-clause-run
returns-clause-run c = one_abandoned_run

pub returns-clause-is_open : goal.returns-clause-is_open
returns-clause-is_open c = one_abandoned_open
