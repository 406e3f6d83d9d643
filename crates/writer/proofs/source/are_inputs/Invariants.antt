use Rattle.std.proofs.Common.{take}
use Rattle.writer.specs.Sources.{Each, IsInputSource}
use Rattle.writer.proofs.source.are_inputs.Given as goal

abbrev pub invariant-loop-input : goal.invariant-loop-input
invariant-loop-input l = Each IsInputSource (take l.input-index l.inputs)
