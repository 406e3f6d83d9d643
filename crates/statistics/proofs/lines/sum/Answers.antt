use Rattle.statistics.proofs.Texts.{sum_more}
use Rattle.statistics.proofs.lines.sum.Goals as goal

pub loop-one-preserved : goal.loop-one-preserved
loop-one-preserved c = sum_more c.args.counts.now c.loop-one.one-index _ c.loop-one.all c.with-all.result c.loop-one-test.true c.loop-one.invariant c.with-all.ensures.events c.with-all.ensures.received c.with-all.ensures.sent
