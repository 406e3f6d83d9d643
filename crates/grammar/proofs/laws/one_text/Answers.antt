use Rattle.grammar.proofs.Texts.{one_text}
use Rattle.grammar.proofs.laws.one_text.Goals as goal

pub returns : goal.returns
returns c = one_text
