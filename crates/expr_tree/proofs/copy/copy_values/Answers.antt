use Rattle.std.proofs.Common.{refl}
use Rattle.expr_tree.proofs.Copies.{items-push}
use Rattle.expr_tree.proofs.copy.copy_values.Goals as goal

pub loop-value-preserved : goal.loop-value-preserved
loop-value-preserved g c =
    items-push _ _ _ _ _ c.value-item.result _ c.in_ok-push.ensures.items c.loop-value.invariant refl c.deref-value-items.ensures.value c.loop-value-test.true c.value-item.is
