use Rattle.std.proofs.Common.{◌≡◌, ◌++◌, map, take}
use Rattle.std.specs.List.{flat_map}
use Rattle.expr_tree.specs.Views.{let_tree}
use Rattle.writer.specs.Pieces.{text_of}
use Rattle.writer.specs.Programs.{let_pieces}
use Rattle.writer.proofs.program.write_lets.Given as goal

abbrev pub invariant-loop-item : goal.invariant-loop-item
invariant-loop-item g l = l.out.items ≡ l.initial.out.items ++ text_of (flat_map let_pieces (map let_tree (take l.item-index l.lets)))
