use Rattle.std.proofs.Common.{refl, ap, ◌∙◌}
use Rattle.expr_tree.specs.declared.program.Output.{Output}
use Rattle.expr_tree.specs.Views.{rel_tree, output_tree}
use Rattle.expr_tree.proofs.Copies.{seen-push, seen-output}
use Rattle.expr_tree.proofs.copy.copy_outputs.Goals as goal

pub loop-output-preserved : goal.loop-output-preserved
loop-output-preserved g c =
    let output = c.output-item.result in
    let copied : Output _ = record { keyword_span = output.keyword_span; name_span = output.name_span; name = c.copied.result; relation = c.in_ok-relation.relation } in
    let relation = ap rel_tree c.in_ok-relation.ensures.ok ∙ c.in_ok-copy_rel.ensures ∙ ap rel_tree c.deref.ensures in
    seen-push output_tree output_tree _ c.push.new.self.items _ _ copied output _ c.in_ok-push.ensures.items c.loop-output.invariant (seen-output copied output refl refl c.copied.ensures relation) c.deref-output-items.ensures.value c.loop-output-test.true c.output-item.is
