use Rattle.std.proofs.Common.{◌≡◌, ◌∙◌, sym, ap, not, false, true}
use Rattle.expr_tree.specs.Plain.{plain_form, plain_rel}
use Rattle.expr_tree.specs.Views.{rel_tree}
use Rattle.sql.proofs.FreeInLoops.{free_inside, free_outside}
use Rattle.sql.proofs.linear.+is_free.Goals as goal

pub returns-then-not-eq : goal.returns-then-not-eq
returns-then-not-eq g t c =
    let other : c.eq-else-is_free-3.result ≡ false = cc in
    rw c.in-Loop.is
    ((rw c.deref-then-not-eq.ensures at c.is_free-then-not-eq.ensures)
    ∙ free_inside (plain_form c.in-Loop.form) c.in-Loop.turns c.in-Loop.bound c.args.name.now (plain_rel (rel_tree c.in-Loop.start.value)) (plain_rel (rel_tree c.in-Loop.body.value))
    (sym (rw c.deref-in-Loop.ensures at c.is_free-in-Loop.ensures) ∙ c.if-is_free-3.false) (sym c.eq-else-is_free-3.ensures.value ∙ other))

pub returns-else-not-eq : goal.returns-else-not-eq
returns-else-not-eq g t c =
    let own : c.eq-else-is_free-3.result ≡ true = cc in
    rw c.in-Loop.is
    (ap not own
    ∙ free_outside (plain_form c.in-Loop.form) c.in-Loop.turns c.in-Loop.bound c.args.name.now (plain_rel (rel_tree c.in-Loop.start.value)) (plain_rel (rel_tree c.in-Loop.body.value))
    (sym (rw c.deref-in-Loop.ensures at c.is_free-in-Loop.ensures) ∙ c.if-is_free-3.false) (sym c.eq-else-is_free-3.ensures.value ∙ own))
