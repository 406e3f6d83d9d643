use Rattle.std.proofs.Common.{◌≡◌, map, flat_map, drop}
use Rattle.expr_tree.specs.Views.{scalar_tree}
use Rattle.typing.specs.Columns.{scalar_columns, first_beyond}
use Rattle.typing.proofs.columns.in_scalars.Given as goal

-- what is left decides
abbrev pub invariant-loop-scalar : goal.invariant-loop-scalar
invariant-loop-scalar g l = first_beyond (flat_map (scalar_columns l.arity) (map scalar_tree l.scalars)) ≡ first_beyond (flat_map (scalar_columns l.arity) (map scalar_tree (drop l.scalar-index l.scalars)))
