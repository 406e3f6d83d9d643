use Rattle.simple_trackers.specs.Counts.{pointstamps}
use Rattle.simple_trackers.proofs.CountsKept.{NoneTo}
use Rattle.simple_trackers.proofs.counted.place_of.Given as goal

abbrev pub invariant-loop-i : goal.invariant-loop-i
invariant-loop-i l = NoneTo (pointstamps l.fn.active) l.fn.p l.i
