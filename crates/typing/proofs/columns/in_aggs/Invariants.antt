use Rattle.std.proofs.Common.{◌≡◌, flat_map, drop}
use Rattle.typing.specs.Columns.{agg_columns, first_beyond}
use Rattle.typing.proofs.columns.in_aggs.Given as goal

-- what is left decides
abbrev pub invariant-loop-agg : goal.invariant-loop-agg
invariant-loop-agg l = first_beyond (flat_map (agg_columns l.arity) l.aggs) ≡ first_beyond (flat_map (agg_columns l.arity) (drop l.agg-index l.aggs))
