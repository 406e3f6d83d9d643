use Rattle.collector.proofs.Writes.{Appends-more, piece_within}
use Rattle.execution.proofs.watching.takes_all.Goals as goal

pub loop-at-preserved : goal.loop-at-preserved
loop-at-preserved g c = (
  piece_within c.args.text.now c.loop-at.at c.in-Ok.n c.loop-at.invariant.0 c.in-Ok.ensures.bound,
  Appends-more (g.W.Write.contents c.args.writer.now) (g.W.Write.contents c.loop-at.writer) (g.W.Write.contents c.write.new.self) c.args.text.now c.loop-at.at c.in-Ok.n c.loop-at.invariant.1 c.in-Ok.ensures.bytes,
)
