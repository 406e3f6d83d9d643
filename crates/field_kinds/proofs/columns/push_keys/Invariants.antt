use Rattle.std.proofs.Common.{◌≡◌, ◌++◌, drop, map, slice_get, List}
use Rattle.std.specs.Prelude.{option_map}
use Rattle.expr_tree.specs.declared.relation.Column.{Column}
use Rattle.kinds.specs.Relations.{all_of}
use Rattle.kinds.specs.declared.kind.Kind.{Kind}
use Rattle.field_kinds.proofs.columns.push_keys.Given as goal

-- what was added, and what is left, are the answer
abbrev pub invariant-loop-key : goal.invariant-loop-key
invariant-loop-key l =
    (added : List Kind) × (l.fields.items ≡ l.fn.fields.items ++ added)
    × (all_of (map (slice_get l.kinds) (map (λ (k : Column). k.index) l.keys)) ≡ option_map (λ ys. added ++ ys) (all_of (map (slice_get l.kinds) (map (λ (k : Column). k.index) (drop l.key-index l.keys)))))
