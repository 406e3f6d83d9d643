use Rattle.std.proofs.Common.{rules}
use Rattle.collector.proofs.refusal.Fault.code.Goals as goal

pub returns-in-BadNumber : goal.returns-in-BadNumber
returns-in-BadNumber c = search rules
