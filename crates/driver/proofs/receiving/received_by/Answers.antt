use Rattle.driver.specs.declared.tally.Counts.{Counts}
use Rattle.driver.proofs.Sums.{sum_more}
use Rattle.driver.proofs.receiving.received_by.Goals as goal

pub workers-preserved : goal.workers-preserved
workers-preserved c = sum_more (λ (d : Counts). d.received) c.args.row.now c.workers.counts-index _ c.workers.all c.saturating_add-all.result c.workers-test.true c.workers.invariant c.saturating_add-all.ensures
