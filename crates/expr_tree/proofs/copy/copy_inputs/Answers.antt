use Rattle.expr_tree.proofs.Copies.{items-push}
use Rattle.expr_tree.proofs.copy.copy_inputs.Goals as goal

pub loop-input-preserved : goal.loop-input-preserved
loop-input-preserved g c =
    items-push _ _ _ _ _ c.input-item.result _ c.in_ok-push.ensures.items c.loop-input.invariant (rw c.copied.ensures) c.deref-input-items.ensures.value c.loop-input-test.true c.input-item.is
