use Rattle.std.proofs.Common.{◌≡◌, ◌<◌, ℕ, []}
use Rattle.views.specs.WorkerViews.{waiting_of}
use Rattle.views.proofs.local_views.some_wait.Given as goal

abbrev pub invariant-loop-s : goal.invariant-loop-s
invariant-loop-s l = (s : ℕ) → s < l.s → waiting_of l.fn.queues l.fn.worker s ≡ []
