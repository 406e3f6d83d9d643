use Rattle.csv_epochs.proofs.EpochByEpoch.{next-epoch}
use Rattle.csv_epochs.proofs.laws.law_next_epoch.Goals as goal

pub returns : goal.returns
returns c = next-epoch
