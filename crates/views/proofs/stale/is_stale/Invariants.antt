use Rattle.std.proofs.Common.{◌≡◌, ◌≤◌, ◌*◌, ◌^◌}
use Rattle.semantics.specs.Multiset.{total}
use Rattle.machine.specs.Active.{sum_below}
use Rattle.views.specs.WorkerViews.{waiting_of}
use Rattle.views.proofs.stale.is_stale.Given as goal

abbrev pub invariant-loop-s : goal.invariant-loop-s
invariant-loop-s l = record {
  adds : l.adds ≡ sum_below l.s (λ s. total (λ b. b.adds l.fn.p) (waiting_of l.fn.queues l.fn.worker s));
  removes : l.removes ≡ sum_below l.s (λ s. total (λ b. b.removes l.fn.p) (waiting_of l.fn.queues l.fn.worker s));
  few_adds : l.adds ≤ 2 ^ 64 * l.s;
  few_removes : l.removes ≤ 2 ^ 64 * l.s;
}
