use Rattle.std.proofs.Common.{◌≡◌, ◌++◌, map, take}
use Rattle.std.specs.List.{flat_map}
use Rattle.expr_tree.specs.Views.{output_tree}
use Rattle.writer.specs.Pieces.{text_of}
use Rattle.writer.specs.Programs.{output_pieces}
use Rattle.writer.proofs.program.write_outputs.Given as goal

abbrev pub invariant-loop-output : goal.invariant-loop-output
invariant-loop-output g l = l.out.items ≡ l.initial.out.items ++ text_of (flat_map output_pieces (map output_tree (take l.output-index l.outputs)))
