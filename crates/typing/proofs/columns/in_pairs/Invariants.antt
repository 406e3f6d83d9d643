use Rattle.std.proofs.Common.{◌≡◌, flat_map, drop}
use Rattle.typing.specs.Columns.{pair_columns, first_beyond}
use Rattle.typing.proofs.columns.in_pairs.Given as goal

-- what is left decides
abbrev pub invariant-loop-pair : goal.invariant-loop-pair
invariant-loop-pair l = first_beyond (flat_map (pair_columns l.left l.right) l.pairs) ≡ first_beyond (flat_map (pair_columns l.left l.right) (drop l.pair-index l.pairs))
