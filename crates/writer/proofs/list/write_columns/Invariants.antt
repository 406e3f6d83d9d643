use Rattle.std.proofs.Common.{◌≡◌, ◌++◌, take}
use Rattle.std.specs.List.{flat_map}
use Rattle.writer.specs.Pieces.{comma, text_of}
use Rattle.writer.specs.Relations.{column_pieces}
use Rattle.writer.proofs.list.write_columns.Given as goal

abbrev pub invariant-loop-column : goal.invariant-loop-column
invariant-loop-column l = l.out.items ≡ l.initial.out.items ++ text_of (flat_map (λ y. comma ++ column_pieces y) (take l.column-index l.rest))
