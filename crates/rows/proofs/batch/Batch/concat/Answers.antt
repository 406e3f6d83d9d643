use Rattle.std.proofs.Common.{rules}
use Rattle.rows.specs.Counts.{runs}
use Rattle.rows.proofs.Joined.{joined_more}
use Rattle.rows.proofs.batch.Batch.concat.Goals as goal

pub loop-batch-preserved : goal.loop-batch-preserved
loop-batch-preserved c = (
  joined_more c.args.first.now c.args.more.now c.loop-batch.batch-index c.batch-item.result c.loop-batch.rows.runs c.extend-in-loop-batch.new.self.runs c.counted-in-loop-batch.result.now.runs (runs c.batch-item.result)
      (search rules) c.batch-item.is c.counted-in-loop-batch.ensures.runs c.counted-in-loop-batch.ensures.all c.loop-batch.invariant.0 (search rules),
  search rules,
)
