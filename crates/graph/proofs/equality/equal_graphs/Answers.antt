use Rattle.std.proofs.Common.{rules}
use Rattle.graph.proofs.equality.equal_graphs.Goals as goal

pub returns-then-same_outputs : goal.returns-then-same_outputs
returns-then-same_outputs c = search rules
