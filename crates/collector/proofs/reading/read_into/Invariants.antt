use Rattle.std.proofs.Common.{length, map}
use Rattle.record_core.specs.Inputs.{input_of}
use Rattle.collector.proofs.LinesRead.{ReadSoFar}
use Rattle.collector.proofs.reading.read_into.Given as goal

abbrev pub invariant-loop-rest : goal.invariant-loop-rest
invariant-loop-rest l = ReadSoFar (map input_of l.inputs) l.text l.rest l.number l.initial.draft l.draft

abbrev pub decreases-loop-rest : goal.decreases-loop-rest
decreases-loop-rest l = length l.rest
