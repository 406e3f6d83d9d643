use Rattle.collector.proofs.Piles.{front_more}
use Rattle.collector.proofs.sameness.same_batches.Goals as goal

pub loop-batch-preserved : goal.loop-batch-preserved
loop-batch-preserved c = front_more c.args.left.now c.loop-batch.batch-index c.batch-item.result c.in-Some.other.now c.args.right.now c.loop-batch.rest.now c.in-Some.after.now c.loop-batch-test.true c.batch-item.is c.in-Some.ensures.cases.0 (c.same.ensures.0 c.if-not-same.false) c.loop-batch.invariant
