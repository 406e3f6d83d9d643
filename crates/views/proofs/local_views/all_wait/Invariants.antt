use Rattle.std.proofs.Common.{◌≡◌, ◌-◌, ◌^◌, length}
use Rattle.std.specs.Prelude.{min}
use Rattle.machine.specs.Active.{sum_below}
use Rattle.views.specs.Queued.{batches_of}
use Rattle.views.specs.WorkerViews.{untaken_at}
use Rattle.views.proofs.local_views.all_wait.Given as goal

abbrev pub invariant-loop-w : goal.invariant-loop-w
invariant-loop-w l = l.sum ≡ min (2 ^ 64 - 1) (sum_below l.w (λ w. sum_below (length l.fn.queues) (λ s. length (batches_of s (untaken_at l.fn.queues s w)))))
