use Rattle.console.proofs.Answered.{run_answered}
use Rattle.console.proofs.laws.law_answered.Goals as goal

pub returns : goal.returns
returns c = run_answered
