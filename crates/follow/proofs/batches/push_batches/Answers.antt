use Rattle.collector.specs.OutputText.{label_of}
use Rattle.follow.specs.Entries.{row_line}
use Rattle.follow.proofs.Entries.{batches_more}
use Rattle.follow.proofs.batches.push_batches.Goals as goal

pub loop-batch-preserved : goal.loop-batch-preserved
loop-batch-preserved c =
    batches_more (row_line c.args.epoch (label_of c.args.plain c.args.name.now)) c.args.batches.now c.loop-batch.batch-index c.batch-item.result c.args.out.now.items c.loop-batch.out.items c.push_batch.new.out.items c.loop-batch-test.true c.batch-item.is c.loop-batch.invariant c.in_ok-push_batch.ensures
