use Rattle.std.proofs.Common.{rules}
use Rattle.graph.proofs.equality.KindPartialEq.eq.Goals as goal

pub returns-in-Gate-Gate : goal.returns-in-Gate-Gate
returns-in-Gate-Gate c = search rules

pub returns-in-Unseen-Unseen : goal.returns-in-Unseen-Unseen
returns-in-Unseen-Unseen c = search rules
