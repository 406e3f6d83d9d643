use Rattle.tables.proofs.NoInput.{no-input}
use Rattle.tables.proofs.encoding.law_refused_input.Goals as goal

pub returns : goal.returns
returns c = no-input
