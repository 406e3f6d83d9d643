use Rattle.std.proofs.Common.{◌<◌, ℕ, false}
use Rattle.semantics.specs.Could.{Pointstamp}
use Rattle.graph.specs.Shown.{shown_graph}
use Rattle.views.specs.Queued.{EndsFrom, removes_in}
use Rattle.views.specs.WorkerViews.{untaken_at}
use Rattle.views.specs.Stale.{LetsThrough, stale_count}
use Rattle.views.proofs.stale.is_blocked.Given as goal

abbrev pub invariant-loop-s : goal.invariant-loop-s
invariant-loop-s l = record {
  ends : (t : ℕ) → t < l.s → EndsFrom false (untaken_at l.fn.queues t l.fn.worker);
  passed : (t : ℕ) → t < l.s → (q : Pointstamp) → 0 < removes_in (untaken_at l.fn.queues t l.fn.worker) q → LetsThrough (shown_graph l.fn.paths) (stale_count l.fn.queues l.fn.worker) l.fn.p l.fn.other q;
}
