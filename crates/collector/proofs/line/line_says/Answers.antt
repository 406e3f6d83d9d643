use Rattle.std.proofs.Common.{rules}
use Rattle.collector.proofs.line.line_says.Goals as goal

pub returns-then-epochs-eq0 : goal.returns-then-epochs-eq0
returns-then-epochs-eq0 c = search rules
