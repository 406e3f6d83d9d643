use Rattle.std.proofs.Common.{ap, sym, ◌∙◌}
use Rattle.expr_tree.specs.Plain.{plain_input}
use Rattle.semantics.specs.Query.{Input}
use Rattle.sql.proofs.Inputs.{at_place}
use Rattle.sql.proofs.widths.table_width.Goals as goal

pub returns-then-place-inputs : goal.returns-then-place-inputs
returns-then-place-inputs c =
    let e = at_place plain_input (λ (a : Input). a.arity) c.args.inputs.now c.in-Given.place 0 c.index-inputs-place.result c.if-place-inputs.true c.index-inputs-place.is in
    rw c.in-Given.is (ap (λ i. i.arity) (sym c.index-inputs-place.is) ∙ sym e)
