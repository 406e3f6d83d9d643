use Rattle.std.proofs.Common.{refl, ap, ◌∙◌}
use Rattle.expr_tree.specs.declared.program.Let.{Let}
use Rattle.expr_tree.specs.Views.{rel_tree, let_tree}
use Rattle.expr_tree.proofs.Copies.{seen-push, seen-let}
use Rattle.expr_tree.proofs.copy.copy_lets.Goals as goal

pub loop-item-preserved : goal.loop-item-preserved
loop-item-preserved g c =
    let item = c.item-item.result in
    let copied : Let _ = record { name_span = item.name_span; name = c.copied.result; relation = c.in_ok-relation.relation } in
    let relation = ap rel_tree c.in_ok-relation.ensures.ok ∙ c.in_ok-copy_rel.ensures ∙ ap rel_tree c.deref.ensures in
    seen-push let_tree let_tree _ c.push.new.self.items _ _ copied item _ c.in_ok-push.ensures.items c.loop-item.invariant (seen-let copied item refl c.copied.ensures relation) c.deref-item-items.ensures.value c.loop-item-test.true c.item-item.is
