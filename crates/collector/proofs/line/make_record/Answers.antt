use Rattle.std.proofs.Common.{rules}
use Rattle.collector.proofs.line.make_record.Goals as goal

pub returns-then-count-ge1 : goal.returns-then-count-ge1
returns-then-count-ge1 c = search rules
