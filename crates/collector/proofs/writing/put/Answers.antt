use Rattle.std.proofs.Common.{◌∙◌}
use Rattle.collector.specs.Watching.{inner_of}
use Rattle.collector.proofs.Writes.{Appends-more, piece_within}
use Rattle.collector.proofs.writing.put.Goals as goal

pub loop-at-preserved : goal.loop-at-preserved
loop-at-preserved g c = record {
  within = piece_within c.args.bytes.now c.loop-at.at c.in-Some.n c.loop-at.invariant.within c.in-Some.ensures.some.1;
  written = Appends-more (g.W.Write.contents (inner_of c.args.writer.now)) (g.W.Write.contents (inner_of c.loop-at.writer)) (g.W.Write.contents (inner_of c.push_piece.new.writer)) c.args.bytes.now c.loop-at.at c.in-Some.n c.loop-at.invariant.written c.in-Some.ensures.bytes;
  fine = c.in-Some.ensures.ok ∙ c.loop-at.invariant.fine;
}
