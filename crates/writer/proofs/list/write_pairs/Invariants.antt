use Rattle.std.proofs.Common.{◌≡◌, ◌++◌, take}
use Rattle.std.specs.List.{flat_map}
use Rattle.writer.specs.Pieces.{comma, text_of}
use Rattle.writer.specs.Relations.{pair_pieces}
use Rattle.writer.proofs.list.write_pairs.Given as goal

abbrev pub invariant-loop-pair : goal.invariant-loop-pair
invariant-loop-pair l = l.out.items ≡ l.initial.out.items ++ text_of (flat_map (λ y. comma ++ pair_pieces y) (take l.pair-index l.rest))
