use Rattle.machine.proofs.LocalViews.{run_none, run_no_other, run_exact, run_exact_no_other}
use Rattle.machine.proofs.local_views.law_view_of_run.Goals as goal

pub returns-clause-none : goal.returns-clause-none
returns-clause-none c = run_none

pub returns-clause-no_other : goal.returns-clause-no_other
returns-clause-no_other c = run_no_other

pub returns-clause-exact_none : goal.returns-clause-exact_none
returns-clause-exact_none c = run_exact

pub returns-clause-exact_no_other : goal.returns-clause-exact_no_other
returns-clause-exact_no_other c = run_exact_no_other
