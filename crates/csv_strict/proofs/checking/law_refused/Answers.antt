use Rattle.csv_strict.proofs.Runs.{not-strict}
use Rattle.csv_strict.proofs.checking.law_refused.Goals as goal

pub returns : goal.returns
returns c = not-strict
