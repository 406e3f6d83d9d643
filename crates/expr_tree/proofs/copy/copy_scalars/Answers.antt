use Rattle.expr_tree.specs.Views.{scalar_tree}
use Rattle.expr_tree.proofs.Copies.{seen-push}
use Rattle.expr_tree.proofs.copy.copy_scalars.Goals as goal

pub loop-scalar-preserved : goal.loop-scalar-preserved
loop-scalar-preserved g c =
    seen-push scalar_tree scalar_tree _ _ _ _ _ _ _ c.in_ok-push.ensures.items c.loop-scalar.invariant c.in_ok-copy_scalar.ensures c.deref-scalar-items.ensures.value c.loop-scalar-test.true c.scalar-item.is
