use Rattle.std.proofs.Common.{take}
use Rattle.collector.specs.Quick.{Fit}
use Rattle.collector.proofs.piecewise.law_fit.Given as goal

abbrev pub invariant-loop-i : goal.invariant-loop-i
invariant-loop-i l = Fit (take l.i l.row)
