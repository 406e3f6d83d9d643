use Rattle.sql_meaning.proofs.PlainlyByEpoch.{plainly_by_epoch}
use Rattle.sql_meaning.proofs.laws.law_epochs_right_or_error.Goals as goal

pub returns : goal.returns
returns c = λ s tables h e. plainly_by_epoch tables h s e
