use Rattle.sql_meaning.proofs.Unwanted.{unwanted_by_epoch}
use Rattle.sql_meaning.proofs.laws.law_epochs_wanted.Goals as goal

pub returns : goal.returns
returns c = unwanted_by_epoch
