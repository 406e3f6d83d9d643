use Rattle.std.proofs.Common.{◌≡◌, drop, take, map}
use Rattle.std.specs.List.{AllZip, AllByRecursion}
use Rattle.expr_tree.specs.Plain.{plain_scalar}
use Rattle.expr_tree.specs.Views.{scalar_tree}
use Rattle.semantics.specs.Normal.{NormalScalar, replaced, uses_all}
use Rattle.normalise.specs.Replaced.{MovesOut, Once}
use Rattle.normalise.specs.Rewritten.{IsFolded}
use Rattle.normalise.proofs.replacement.replace_all.Given as goal

abbrev pub invariant-loop-scalar : goal.invariant-loop-scalar
invariant-loop-scalar g l = record {
  done : AllByRecursion NormalScalar (map plain_scalar (map scalar_tree l.fn.by)) → Once (uses_all (map plain_scalar (map scalar_tree l.fn.scalars.items))) → AllZip IsFolded (map plain_scalar (map scalar_tree (take l.scalar-index l.scalar-items))) (map (replaced (map plain_scalar (map scalar_tree l.fn.by))) (map plain_scalar (map scalar_tree (take l.scalar-index l.fn.scalars.items))));
  moved : MovesOut (uses_all (map plain_scalar (map scalar_tree (take l.scalar-index l.fn.scalars.items)))) (map plain_scalar (map scalar_tree l.by)) (map plain_scalar (map scalar_tree l.fn.by));
  rest : drop l.scalar-index l.scalar-items ≡ drop l.scalar-index l.fn.scalars.items;
}
