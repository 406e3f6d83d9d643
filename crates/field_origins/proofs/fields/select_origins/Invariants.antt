use Rattle.std.proofs.Common.{◌≡◌, map, take}
use Rattle.expr_tree.specs.Plain.{plain_scalar}
use Rattle.expr_tree.specs.Views.{scalar_tree}
use Rattle.field_origins.specs.Shown.{origins}
use Rattle.field_origins.specs.Sources.{scalar_origin}
use Rattle.field_origins.proofs.fields.select_origins.Given as goal

-- so far
abbrev pub invariant-loop-scalar : goal.invariant-loop-scalar
invariant-loop-scalar g l = origins l.selected.items ≡ map (scalar_origin (origins l.fields)) (map plain_scalar (map scalar_tree (take l.scalar-index l.scalars)))
