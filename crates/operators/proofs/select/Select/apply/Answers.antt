use Rattle.std.proofs.Common.{◌≡◌, rules, map, ap, sym, subst, ◌∙◌, IfErr}
use Rattle.expr_tree.specs.Plain.{plain_scalar}
use Rattle.expr_tree.specs.Views.{scalar_tree}
use Rattle.rows.specs.FlatRows.{arity_of}
use Rattle.rows.specs.Counts.{IsOver}
use Rattle.rows.specs.declared.fault.WorkFault.TheVariants.{Count}
use Rattle.semantics.specs.Meaning.{selected}
use Rattle.operators.specs.Columns.{AllDetermined}
use Rattle.operators.proofs.select.Select.apply.Goals as goal

pub from_counted-requires : goal.from_counted-requires
from_counted-requires c =
    let asked : AllDetermined c.args.self.now.arity (map plain_scalar (map scalar_tree c.deref-2.result.now)) = c.if-all_determined.ensures (search rules) in
    let determined : AllDetermined (arity_of c.args.batch.now) (map plain_scalar (map scalar_tree c.deref.result.now)) =
    subst (λ n. AllDetermined n (map plain_scalar (map scalar_tree c.deref.result.now))) (sym c.requires)
    (subst (λ ss. AllDetermined c.args.self.now.arity (map plain_scalar (map scalar_tree ss))) (c.deref-2.ensures.value ∙ sym c.deref.ensures.value) asked) in
    (c.in_ok-made.ensures.runs determined).different

pub returns-clause-over : goal.returns-clause-over
returns-clause-over c =
    subst (λ xs. IfErr c.merged.result (λ e. e ≡ Count → IsOver xs))
    (c.in_ok-made.ensures.records ∙ ap (λ ss. selected (map plain_scalar (map scalar_tree ss)) c.args.batch.now) c.deref.ensures.value) c.merged.ensures.over
