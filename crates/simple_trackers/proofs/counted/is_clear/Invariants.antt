use Rattle.std.proofs.Common.{false}
use Rattle.graph.specs.Shown.{shown_graph}
use Rattle.simple_trackers.specs.Counts.{pointstamps}
use Rattle.progress.proofs.Contents.{ClearTo}
use Rattle.simple_trackers.proofs.counted.is_clear.Given as goal

abbrev pub invariant-loop-i : goal.invariant-loop-i
invariant-loop-i l = ClearTo (shown_graph l.fn.paths) (pointstamps l.fn.active) l.fn.p false l.i
