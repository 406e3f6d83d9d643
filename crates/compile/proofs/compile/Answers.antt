use Rattle.std.proofs.Common.{subst, sym}
use Rattle.expr_tree.specs.Plain.{plain_program}
use Rattle.lowering.specs.Faults.{IsTooMany}
use Rattle.typing.specs.Shown.{output_arities, typed_program}
use Rattle.compile.proofs.Rewritten.{compiled, too_large}
use Rattle.compile.proofs.compile.Goals as goal

pub returns-in-Ok-lower-clause-graph : goal.returns-in-Ok-lower-clause-graph
returns-in-Ok-lower-clause-graph g c =
    compiled c.args.text.now (typed_program c.in-Ok.typed) (output_arities c.in-Ok.typed) (plain_program (typed_program c.in-Ok-normal_form.normal)) _ _ _ c.in-Ok.ensures.typed c.in-Ok.ensures.well c.in-Ok-normal_form.ensures
    c.in-Ok-lower.ensures.graph c.in-Ok-lower.ensures.inputs c.in-Ok-lower.ensures.names c.in-Ok-lower.ensures.flow

pub returns-in-Err-TooMany-clause-fault : goal.returns-in-Err-TooMany-clause-fault
returns-in-Err-TooMany-clause-fault g c =
    let large : IsTooMany c.in-Err-TooMany.field-0 = subst IsTooMany (sym c.in-Err-TooMany.field-0-is) tt in
    too_large c.args.text.now (typed_program c.in-Ok.typed) (output_arities c.in-Ok.typed) (plain_program (typed_program c.in-Ok-normal_form.normal)) c.in-Ok.ensures.typed c.in-Ok.ensures.well c.in-Ok-normal_form.ensures (c.in-Err-TooMany.ensures.many large)
