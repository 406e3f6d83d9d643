use Rattle.std.proofs.Common.{◌≡◌, ◌++◌, take}
use Rattle.std.specs.List.{flat_map}
use Rattle.writer.specs.Pieces.{comma, text_of}
use Rattle.writer.specs.Relations.{agg_pieces}
use Rattle.writer.proofs.list.write_aggs.Given as goal

abbrev pub invariant-loop-aggregate : goal.invariant-loop-aggregate
invariant-loop-aggregate l = l.out.items ≡ l.initial.out.items ++ text_of (flat_map (λ y. comma ++ agg_pieces y) (take l.aggregate-index l.rest))
