use Rattle.commands.proofs.OneAnswer.{one_answer}
use Rattle.commands.proofs.laws.law_one_answer.Goals as goal

pub returns : goal.returns
returns c = one_answer c.law_equal_multisets.ensures.other_way c.law_equal_multisets.ensures.onward c.law_one_reading.ensures.epochs c.law_one_answer.ensures
