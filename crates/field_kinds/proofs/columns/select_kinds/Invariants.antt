use Rattle.std.proofs.Common.{◌≡◌, ◌++◌, drop, map}
use Rattle.std.specs.Prelude.{option_map}
use Rattle.expr_tree.specs.Plain.{plain_scalar}
use Rattle.expr_tree.specs.Views.{scalar_tree}
use Rattle.kinds.specs.Kinds.{scalar_kind}
use Rattle.kinds.specs.Relations.{all_of}
use Rattle.field_kinds.proofs.columns.select_kinds.Given as goal

-- what was found, and what is left, are the answer
abbrev pub invariant-loop-scalar : goal.invariant-loop-scalar
invariant-loop-scalar g l =
    all_of (map (scalar_kind l.kinds) (map plain_scalar (map scalar_tree l.scalars))) ≡ option_map (λ ys. l.fields.items ++ ys) (all_of (map (scalar_kind l.kinds) (map plain_scalar (map scalar_tree (drop l.scalar-index l.scalars)))))
