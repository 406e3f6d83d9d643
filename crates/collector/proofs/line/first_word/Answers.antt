use Rattle.collector.proofs.Splits.{split_none, cut_at}
use Rattle.collector.proofs.line.first_word.Goals as goal

pub returns-in-None : goal.returns-in-None
returns-in-None c = split_none 32 c.args.line.now c.in-None.ensures.none

pub returns-in-Some : goal.returns-in-Some
returns-in-Some c = cut_at 32 c.args.line.now c.around.result.0.now c.around.result.1.now c.in-Some.end c.in-Some.ensures.found c.around.ensures.before c.around.ensures.after
