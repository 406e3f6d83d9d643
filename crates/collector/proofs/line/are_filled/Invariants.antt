use Rattle.std.proofs.Common.{◌↔◌, length}
use Rattle.std.specs.List.{AllByRecursion}
use Rattle.collector.specs.Pieces.{split_on}
use Rattle.collector.specs.Lines.{IsFilled}
use Rattle.collector.proofs.line.are_filled.Given as goal

abbrev pub invariant-loop-end : goal.invariant-loop-end
invariant-loop-end l = AllByRecursion IsFilled (split_on 32 l.rest) ↔ AllByRecursion IsFilled (split_on 32 l.text)

abbrev pub decreases-loop-end : goal.decreases-loop-end
decreases-loop-end l = length l.rest
