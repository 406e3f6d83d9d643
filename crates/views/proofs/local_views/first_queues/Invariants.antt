use Rattle.std.proofs.Common.{◌≡◌, ℕ, [], length, Some, slice_get}
use Rattle.views.specs.Queued.{Queued}
use Rattle.views.proofs.local_views.first_queues.Given as goal

abbrev pub invariant-loop : goal.invariant-loop
invariant-loop l = record {
  long : length l.queues.items ≡ l.counter;
  each : (s : ℕ) (q : Queued) → slice_get l.queues.items s ≡ Some q → (q.changes ≡ []) × (length q.taken ≡ l.fn.workers);
}
