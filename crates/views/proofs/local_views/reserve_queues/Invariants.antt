use Rattle.std.proofs.Common.{◌≤◌, ◌<◌, ◌≡◌, ℕ, Some, slice_get}
use Rattle.views.specs.Queued.{Queued}
use Rattle.views.specs.WorkerViews.{AreSameQueues}
use Rattle.views.proofs.local_views.reserve_queues.Given as goal

abbrev pub invariant-loop-s : goal.invariant-loop-s
invariant-loop-s l = record {
  same : AreSameQueues l.fn.queues.items l.queues.items;
  free : (s : ℕ) (q : Queued) → s < l.s → slice_get l.queues.items s ≡ Some q → l.fn.count ≤ q.free;
}
