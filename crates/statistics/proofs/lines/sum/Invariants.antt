use Rattle.std.proofs.Common.{◌≡◌, take}
use Rattle.statistics.specs.Report.{sum_of}
use Rattle.statistics.proofs.lines.sum.Given as goal

abbrev pub invariant-loop-one : goal.invariant-loop-one
invariant-loop-one l = l.all ≡ sum_of (take l.one-index l.counts)
