use Rattle.lowering.proofs.MoreVertices.{graph_of_set}
use Rattle.lowering.proofs.loops.set_concat.Goals as goal

pub returns : goal.returns
returns c = graph_of_set c.args.made.now.items c.args.number _
