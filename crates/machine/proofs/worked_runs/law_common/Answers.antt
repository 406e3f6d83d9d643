use Rattle.machine.proofs.WorkedOutputs.{common_none_sent, common_run, common_emitted, common_open}
use Rattle.machine.proofs.worked_runs.law_common.Goals as goal

pub returns-clause-none_sent : goal.returns-clause-none_sent
returns-clause-none_sent c = common_none_sent

pub returns-clause-run : goal.returns-clause-run
returns-clause-run c = common_run

pub returns-clause-emitted : goal.returns-clause-emitted
returns-clause-emitted c = common_emitted

pub returns-clause-is_open : goal.returns-clause-is_open
returns-clause-is_open c = common_open
