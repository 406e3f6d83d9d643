use Rattle.machine.proofs.WorkedOutputs.{second_first_run, second_emitted, second_passed, first_none_emitted, first_open}
use Rattle.machine.proofs.worked_runs.law_two_outputs.Goals as goal

pub returns-clause-run : goal.returns-clause-run
returns-clause-run c = second_first_run

pub returns-clause-emitted : goal.returns-clause-emitted
returns-clause-emitted c = second_emitted

pub returns-clause-passed : goal.returns-clause-passed
returns-clause-passed c = second_passed

pub returns-clause-none_emitted : goal.returns-clause-none_emitted
returns-clause-none_emitted c = first_none_emitted

pub returns-clause-is_open : goal.returns-clause-is_open
returns-clause-is_open c = first_open
