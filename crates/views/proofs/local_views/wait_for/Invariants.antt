use Rattle.std.proofs.Common.{◌≡◌, ◌-◌, ◌^◌, length}
use Rattle.std.specs.Prelude.{min}
use Rattle.machine.specs.Active.{sum_below}
use Rattle.views.specs.Queued.{batches_of}
use Rattle.views.specs.WorkerViews.{untaken_at}
use Rattle.views.proofs.local_views.wait_for.Given as goal

abbrev pub invariant-loop-s : goal.invariant-loop-s
invariant-loop-s l = l.sum ≡ min (2 ^ 64 - 1) (sum_below l.s (λ s. length (batches_of s (untaken_at l.fn.queues s l.fn.worker))))
