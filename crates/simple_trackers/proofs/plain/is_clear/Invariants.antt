use Rattle.graph.specs.Shown.{shown_graph}
use Rattle.progress.proofs.Contents.{ClearTo}
use Rattle.simple_trackers.proofs.plain.is_clear.Given as goal

abbrev pub invariant-loop-i : goal.invariant-loop-i
invariant-loop-i l = ClearTo (shown_graph l.fn.paths) l.fn.active l.fn.p l.fn.other l.i
