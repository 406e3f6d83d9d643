use Rattle.std.proofs.Common.{◌≡◌, drop, take, map}
use Rattle.std.specs.List.{AllZip}
use Rattle.expr_tree.specs.Plain.{plain_scalar}
use Rattle.expr_tree.specs.Views.{scalar_tree}
use Rattle.normalise.specs.Rewritten.{IsFolded}
use Rattle.normalise.proofs.scalars.fold_all.Given as goal

abbrev pub invariant-loop-scalar : goal.invariant-loop-scalar
invariant-loop-scalar g l = record {
  done : AllZip IsFolded (map plain_scalar (map scalar_tree (take l.scalar-index l.scalar-items))) (map plain_scalar (map scalar_tree (take l.scalar-index l.fn.scalars.items)));
  rest : drop l.scalar-index l.scalar-items ≡ drop l.scalar-index l.fn.scalars.items;
}
