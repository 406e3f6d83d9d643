use Rattle.std.proofs.Common.{◌≡◌, ◌++◌, map, take}
use Rattle.std.specs.List.{flat_map}
use Rattle.expr_tree.specs.Views.{scalar_tree}
use Rattle.writer.specs.Pieces.{comma, text_of}
use Rattle.writer.specs.Scalars.{scalar_pieces}
use Rattle.writer.proofs.scalar.write_scalars.Given as goal

abbrev pub invariant-loop-scalar : goal.invariant-loop-scalar
invariant-loop-scalar g l = l.out.items ≡ l.initial.out.items ++ text_of (flat_map (λ y. comma ++ scalar_pieces y) (map scalar_tree (take l.scalar-index l.rest)))
