use Rattle.std.proofs.Common.{length, map}
use Rattle.schedule.specs.LineReader.{command_of}
use Rattle.schedule.proofs.LinesRead.{ReadSoFar}
use Rattle.schedule.proofs.reading.read_schedule.Given as goal

abbrev pub invariant-loop-end : goal.invariant-loop-end
invariant-loop-end l = ReadSoFar l.kind l.text l.rest l.number (map command_of l.lines.items)

abbrev pub decreases-loop-end : goal.decreases-loop-end
decreases-loop-end l = length l.rest
