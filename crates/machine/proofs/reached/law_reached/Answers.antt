use Rattle.machine.proofs.Tracking.{opening_reached, step_reached}
use Rattle.machine.proofs.reached.law_reached.Goals as goal

pub returns-clause-opening : goal.returns-clause-opening
returns-clause-opening c = opening_reached

pub returns-clause-step : goal.returns-clause-step
returns-clause-step c = step_reached
