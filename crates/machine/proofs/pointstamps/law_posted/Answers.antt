use Rattle.machine.proofs.LocalViews.{step_may_post, run_posted}
use Rattle.machine.proofs.pointstamps.law_posted.Goals as goal

pub returns-clause-step : goal.returns-clause-step
returns-clause-step c = step_may_post

pub returns-clause-run : goal.returns-clause-run
returns-clause-run c = run_posted
