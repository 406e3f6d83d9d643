use Rattle.std.proofs.Common.{length, arith}
use Rattle.machine.specs.Active.{sum_below}
use Rattle.views.specs.Queued.{batches_of}
use Rattle.views.specs.WorkerViews.{untaken_at}
use Rattle.views.proofs.SenderSums.{sum_next}
use Rattle.views.proofs.local_views.all_wait.Goals as goal

pub loop-w-preserved : goal.loop-w-preserved
loop-w-preserved c =
    let qs = c.args.queues.now in
    let n = sum_next c.loop-w.w (λ w. sum_below (length qs) (λ t. length (batches_of t (untaken_at qs t w)))) in
    let i = c.loop-w.invariant in
    let a = c.wait_for.ensures in
    let b = c.saturating_add-sum.ensures in
    omega arith
