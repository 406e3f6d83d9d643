use Rattle.std.proofs.Common.{◌≡◌, ◌++◌, map, take}
use Rattle.expr_tree.specs.declared.relation.Column.{Column}
use Rattle.field_origins.specs.Shown.{origins}
use Rattle.field_origins.specs.Sources.{origin_at}
use Rattle.field_origins.proofs.fields.push_keys.Given as goal

-- so far
abbrev pub invariant-loop-key : goal.invariant-loop-key
invariant-loop-key l = origins l.grouped.items ≡ origins l.fn.grouped.items ++ map (origin_at (origins l.fields)) (map (λ (k : Column). k.index) (take l.key-index l.keys))
