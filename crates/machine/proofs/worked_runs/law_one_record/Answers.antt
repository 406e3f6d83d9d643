use Rattle.machine.proofs.WorkedRuns.{fed_run, fed_less, one_record_run, one_record_emitted, one_record_open, one_record_sealed_run, one_record_passed}
use Rattle.machine.proofs.worked_runs.law_one_record.Goals as goal

pub returns-clause-run : goal.returns-clause-run
returns-clause-run c = one_record_run

pub returns-clause-emitted : goal.returns-clause-emitted
returns-clause-emitted c = one_record_emitted

pub returns-clause-is_open : goal.returns-clause-is_open
returns-clause-is_open c = one_record_open

pub returns-clause-run_sealed : goal.returns-clause-run_sealed
returns-clause-run_sealed c = one_record_sealed_run

pub returns-clause-passed : goal.returns-clause-passed
returns-clause-passed c = one_record_passed

pub returns-clause-run_fed : goal.returns-clause-run_fed
returns-clause-run_fed c = fed_run

pub returns-clause-less : goal.returns-clause-less
returns-clause-less c = fed_less
