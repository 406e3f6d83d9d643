use Rattle.machine.proofs.WorkedRuns.{two_mail, two_merged_run, two_absorbed, none_left, other_epoch}
use Rattle.machine.proofs.worked_runs.law_merge.Goals as goal

pub returns-clause-two : goal.returns-clause-two
returns-clause-two c = two_mail

pub returns-clause-run : goal.returns-clause-run
returns-clause-run c = two_merged_run

pub returns-clause-absorbed : goal.returns-clause-absorbed
returns-clause-absorbed c = two_absorbed

pub returns-clause-none_left : goal.returns-clause-none_left
returns-clause-none_left c = none_left

pub returns-clause-other_epoch : goal.returns-clause-other_epoch
returns-clause-other_epoch c = other_epoch
