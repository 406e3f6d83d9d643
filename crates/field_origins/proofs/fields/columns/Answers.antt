use Rattle.std.proofs.Common.{◌∙◌}
use Rattle.field_origins.proofs.NextColumn.{columns_step}
use Rattle.field_origins.proofs.fields.columns.Goals as goal

pub loop-column-preserved : goal.loop-column-preserved
loop-column-preserved c =
    rw (c.in_ok-push.ensures.items)
    (columns_step c.loop-column.fields.items c.in_ok-taken_from.field-0 c.args.input c.loop-column.column c.args.arity c.in_ok-taken_from.ensures c.loop-column-test.true ∙ c.loop-column.invariant)
