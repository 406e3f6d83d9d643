use Rattle.expr_tree.specs.Plain.{plain_cond}
use Rattle.expr_tree.specs.Views.{cond_tree}
use Rattle.std.proofs.Common.{◌++◌, ap, ◌∙◌}
use Rattle.sql.proofs.Steps.{logical_text}
use Rattle.sql.proofs.Texts.{ends_five}
use Rattle.sql.proofs.condition.+push_cond.Goals as goal

pub returns-in_ok-push_cond-in-Logical-2 : goal.returns-in_ok-push_cond-in-Logical-2
returns-in_ok-push_cond-in-Logical-2 g t c =
    rw (c.in-Logical.is, logical_text c.args.form c.in-Logical.connective (plain_cond (cond_tree c.in-Logical.left.value)) (plain_cond (cond_tree c.in-Logical.right.value)))
    (ends_five c.push-in-Logical-2.result c.args.text.now.items _ _ _ _ _ _ _ _ _ _ c.in_ok-push-in-Logical.ensures (rw c.deref.ensures at c.in_ok-push_cond-in-Logical.ensures)
    (c.in_ok-push-in-Logical-2.ensures ∙ ap (λ b. c.push_cond.new.text.items ++ b) c.connective_word.ensures) (rw c.deref-in-Logical.ensures at c.in_ok-push_cond-in-Logical-2.ensures) c.push-in-Logical-2.ensures)
