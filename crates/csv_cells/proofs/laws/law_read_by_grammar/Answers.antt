use Rattle.csv_cells.proofs.ReadByGrammar.{rows-read}
use Rattle.csv_cells.proofs.laws.law_read_by_grammar.Goals as goal

pub returns : goal.returns
returns c = rows-read
