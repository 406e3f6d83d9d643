use Rattle.std.proofs.Common.{◌≤◌, take}
use Rattle.graph.specs.Shown.{shown_graph}
use Rattle.simple_trackers.specs.Counts.{IsPrecursorCount, pointstamps}
use Rattle.simple_trackers.proofs.counted.precursor_count.Given as goal

abbrev pub invariant-loop-i : goal.invariant-loop-i
invariant-loop-i l = record {
  number : IsPrecursorCount (shown_graph l.fn.paths) (take l.i (pointstamps l.fn.active)) l.fn.p l.count;
  few : l.count ≤ l.i;
}
