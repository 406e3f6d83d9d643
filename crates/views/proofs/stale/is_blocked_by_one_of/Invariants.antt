use Rattle.std.proofs.Common.{◌<◌, drop}
use Rattle.semantics.specs.Could.{Pointstamp}
use Rattle.graph.specs.Shown.{shown_graph}
use Rattle.views.specs.Queued.{removes_in}
use Rattle.views.specs.Stale.{LetsThrough, stale_count}
use Rattle.views.proofs.stale.is_blocked_by_one_of.Given as goal

abbrev pub invariant-loop-i : goal.invariant-loop-i
invariant-loop-i l =
    ((q : Pointstamp) → 0 < removes_in (drop l.i l.fn.waiting) q → LetsThrough (shown_graph l.fn.paths) (stale_count l.fn.queues l.fn.worker) l.fn.p l.fn.other q)
    → (q : Pointstamp) → 0 < removes_in l.fn.waiting q → LetsThrough (shown_graph l.fn.paths) (stale_count l.fn.queues l.fn.worker) l.fn.p l.fn.other q
