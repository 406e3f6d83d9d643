use Rattle.std.proofs.Common.{length}
use Rattle.collector.proofs.NumberLists.{ReadFrom}
use Rattle.collector.proofs.line.read_numbers.Given as goal

abbrev pub invariant-loop-end : goal.invariant-loop-end
invariant-loop-end l = ReadFrom l.text l.rest l.fields.items

abbrev pub decreases-loop-end : goal.decreases-loop-end
decreases-loop-end l = length l.rest
