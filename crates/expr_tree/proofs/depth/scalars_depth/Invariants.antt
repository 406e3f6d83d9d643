use Rattle.std.proofs.Common.{◌≡◌, ◌^◌, ◌-◌, map, take, min}
use Rattle.semantics.specs.Size.{scalars_depth}
use Rattle.expr_tree.specs.Plain.{plain_scalar}
use Rattle.expr_tree.specs.Views.{scalar_tree}
use Rattle.expr_tree.proofs.depth.scalars_depth.Given as goal

abbrev pub invariant-loop-scalar : goal.invariant-loop-scalar
invariant-loop-scalar g l = l.deepest ≡ min (scalars_depth (map plain_scalar (map scalar_tree (take l.scalar-index l.scalars.items)))) (2 ^ 64 - 1)
