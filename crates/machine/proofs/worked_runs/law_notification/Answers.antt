use Rattle.machine.proofs.WorkedRuns.{both_ask_0, both_ask_1, held_back, delivered, twin_delivered, first_committed_run, first_committed_sent}
use Rattle.machine.proofs.worked_runs.law_notification.Goals as goal

pub returns-clause-asked_by_0 : goal.returns-clause-asked_by_0
returns-clause-asked_by_0 c = both_ask_0

pub returns-clause-asked_by_1 : goal.returns-clause-asked_by_1
returns-clause-asked_by_1 c = both_ask_1

pub returns-clause-held_back : goal.returns-clause-held_back
returns-clause-held_back c = held_back

pub returns-clause-delivered : goal.returns-clause-delivered
returns-clause-delivered c = delivered

pub returns-clause-twin : goal.returns-clause-twin
returns-clause-twin c = twin_delivered

pub returns-clause-run : goal.returns-clause-run
returns-clause-run c = first_committed_run

pub returns-clause-counts : goal.returns-clause-counts
returns-clause-counts c = first_committed_sent
