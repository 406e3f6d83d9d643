use Rattle.std.proofs.Common.{◌≡◌, ◌++◌, take}
use Rattle.std.specs.List.{flat_map}
use Rattle.writer.specs.Pieces.{text_of}
use Rattle.writer.specs.Programs.{input_pieces}
use Rattle.writer.proofs.program.write_inputs.Given as goal

abbrev pub invariant-loop-input : goal.invariant-loop-input
invariant-loop-input l = l.out.items ≡ l.initial.out.items ++ text_of (flat_map input_pieces (take l.input-index l.inputs))
