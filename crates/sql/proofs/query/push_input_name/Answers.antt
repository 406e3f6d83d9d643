use Rattle.std.proofs.Common.{[], ap}
use Rattle.expr_tree.specs.Plain.{plain_input}
use Rattle.semantics.specs.Query.{Input}
use Rattle.sql.proofs.Inputs.{at_place}
use Rattle.sql.proofs.query.push_input_name.Goals as goal

pub returns-then-place-inputs : goal.returns-then-place-inputs
returns-then-place-inputs c =
    let e = at_place plain_input (λ (a : Input). a.name) c.args.inputs.now c.args.place [] c.index-inputs-place.result c.if-place-inputs.true c.index-inputs-place.is in
    let n = ap (λ i. i.name) c.index-inputs-place.is in
    rw (e, n, ← c.bytes.ensures.value) c.push.ensures
