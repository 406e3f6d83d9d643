use Rattle.graph.specs.Shown.{shown_graph}
use Rattle.simple_trackers.specs.Counts.{CountsPrecursor}
use Rattle.simple_trackers.proofs.CountsKept.{IsDoneTo}
use Rattle.simple_trackers.proofs.counted.remove_precursor.Given as goal

abbrev pub invariant-loop-i : goal.invariant-loop-i
invariant-loop-i l = IsDoneTo (λ c d. CountsPrecursor (shown_graph l.fn.paths) l.fn.p d c) l.fn.active.items l.active.items l.i
