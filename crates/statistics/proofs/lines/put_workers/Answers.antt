use Rattle.statistics.proofs.Texts.{workers_more}
use Rattle.statistics.proofs.lines.put_workers.Goals as goal

pub loop-worker-preserved : goal.loop-worker-preserved
loop-worker-preserved c = workers_more c.args.head.now c.args.counts.now c.loop-worker.worker _ c.args.text.now.items c.loop-worker.text.items c.put_worker.new.text.items c.loop-worker-test.true c.loop-worker.invariant c.in_ok-put_worker.ensures
