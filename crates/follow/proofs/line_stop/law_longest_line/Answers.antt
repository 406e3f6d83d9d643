use Rattle.follow.proofs.TooLong.{short_line}
use Rattle.follow.proofs.line_stop.law_longest_line.Goals as goal

pub returns : goal.returns
returns c = short_line
