use Rattle.kinds.proofs.AlikeRelations.{renaming_keeps}
use Rattle.kinds.proofs.laws.law_renaming.Goals as goal

pub returns : goal.returns
returns c = renaming_keeps
