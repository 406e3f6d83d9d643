use Rattle.std.proofs.Common.{◌≡◌, ◌++◌, drop, map, List}
use Rattle.std.specs.Prelude.{option_map}
use Rattle.expr_tree.specs.Plain.{plain_agg}
use Rattle.kinds.specs.Kinds.{agg_kind}
use Rattle.kinds.specs.Relations.{all_of}
use Rattle.kinds.specs.declared.kind.Kind.{Kind}
use Rattle.field_kinds.proofs.columns.push_aggs.Given as goal

-- what was added, and what is left, are the answer
abbrev pub invariant-loop-aggregate : goal.invariant-loop-aggregate
invariant-loop-aggregate l =
    (added : List Kind) × (l.fields.items ≡ l.fn.fields.items ++ added)
    × (all_of (map (agg_kind l.kinds) (map plain_agg l.aggregates)) ≡ option_map (λ ys. added ++ ys) (all_of (map (agg_kind l.kinds) (map plain_agg (drop l.aggregate-index l.aggregates)))))
