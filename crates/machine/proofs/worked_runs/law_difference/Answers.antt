use Rattle.machine.proofs.WorkedOutputs.{difference_asked, difference_none_sent, difference_held_back, difference_delivered, difference_run, difference_sent}
use Rattle.machine.proofs.worked_runs.law_difference.Goals as goal

pub returns-clause-asked : goal.returns-clause-asked
returns-clause-asked c = difference_asked

pub returns-clause-none_sent : goal.returns-clause-none_sent
returns-clause-none_sent c = difference_none_sent

pub returns-clause-held_back : goal.returns-clause-held_back
returns-clause-held_back c = difference_held_back

pub returns-clause-delivered : goal.returns-clause-delivered
returns-clause-delivered c = difference_delivered

pub returns-clause-run : goal.returns-clause-run
returns-clause-run c = difference_run

pub returns-clause-sent : goal.returns-clause-sent
returns-clause-sent c = difference_sent
