use Rattle.std.proofs.Common.{◌≡◌, ◌++◌, map, take}
use Rattle.expr_tree.specs.Plain.{plain_agg}
use Rattle.field_origins.specs.Shown.{origins}
use Rattle.field_origins.specs.Sources.{agg_origin}
use Rattle.field_origins.proofs.fields.push_aggregates.Given as goal

-- so far
abbrev pub invariant-loop-aggregate : goal.invariant-loop-aggregate
invariant-loop-aggregate l = origins l.grouped.items ≡ origins l.fn.grouped.items ++ map (agg_origin (origins l.fields)) (map plain_agg (take l.aggregate-index l.aggregates))
