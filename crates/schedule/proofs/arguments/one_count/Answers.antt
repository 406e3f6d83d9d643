use Rattle.schedule.proofs.Words.{one_of_one}
use Rattle.collector.specs.Said.{words_of}
use Rattle.schedule.proofs.arguments.one_count.Goals as goal

pub returns-in_default : goal.returns-in_default
returns-in_default c = λ h. let one = one_of_one (words_of c.args.rest) h in c.in_default.ensures.none one.0 one.1
