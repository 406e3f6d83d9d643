use Rattle.tables.proofs.Again.{dictionary-again}
use Rattle.tables.proofs.dictionary_file.law_read_again.Goals as goal

pub returns : goal.returns
returns c = dictionary-again
