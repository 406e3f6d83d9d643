use Rattle.csv_epochs.proofs.EpochByEpoch.{all-strict}
use Rattle.csv_epochs.proofs.laws.law_strict.Goals as goal

pub returns : goal.returns
returns c = all-strict
