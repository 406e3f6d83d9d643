use Rattle.sql_meaning.proofs.EpochsApart.{epochs_apart}
use Rattle.sql_meaning.proofs.laws.law_epochs.Goals as goal

pub returns : goal.returns
returns c = epochs_apart
