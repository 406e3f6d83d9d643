use Rattle.std.proofs.Common.{◌≡◌, ◌+◌, ◌≤◌, take}
use Rattle.semantics.specs.Could.{Pointstamp}
use Rattle.progress.specs.Content.{times_in}
use Rattle.views.proofs.tracked.remove_all.Given as goal

abbrev pub invariant-loop-i : goal.invariant-loop-i
invariant-loop-i g l = record {
  graph : g.P.Progress.graph l.tracker ≡ g.P.Progress.graph l.fn.tracker;
  content : (q : Pointstamp) → g.P.Progress.content l.fn.tracker q ≡ times_in (take l.i l.fn.removed) q + g.P.Progress.content l.tracker q;
  room : g.P.Progress.room l.fn.tracker ≤ g.P.Progress.room l.tracker;
}
