use Rattle.commands.proofs.ReplayedText.{promised_by_text}
use Rattle.commands.proofs.laws.law_replayed.Goals as goal

pub returns : goal.returns
returns c = promised_by_text
