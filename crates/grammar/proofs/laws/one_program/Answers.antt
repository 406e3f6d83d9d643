use Rattle.grammar.proofs.Programs.{one_program}
use Rattle.grammar.proofs.laws.one_program.Goals as goal

pub returns : goal.returns
returns c = λ text ts p q h k d e. one_program d e
