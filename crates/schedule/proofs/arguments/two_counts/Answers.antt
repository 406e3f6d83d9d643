use Rattle.schedule.proofs.Words.{two_of_two}
use Rattle.collector.specs.Said.{words_of}
use Rattle.schedule.proofs.arguments.two_counts.Goals as goal

pub returns-in_default : goal.returns-in_default
returns-in_default c = λ h. let two = two_of_two (words_of c.args.rest) h in c.in_default.ensures.none two.0 two.1 two.2
