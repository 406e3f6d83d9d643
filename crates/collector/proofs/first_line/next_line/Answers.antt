use Rattle.std.proofs.Common.{map}
use Rattle.record_core.specs.Inputs.{input_of}
use Rattle.collector.specs.Quick.{IsRowAt}
use Rattle.collector.proofs.QuickLines.{first_row}
use Rattle.collector.proofs.first_line.next_line.Goals as goal

pub returns-in-Ok-Some : goal.returns-in-Ok-Some
returns-in-Ok-Some c =
    let row : IsRowAt (map input_of c.args.inputs.now) c.args.text.now c.quick_row.new.fields.items c.in-Ok-Some.input c.in-Ok-Some.after.now = rw c.in-Ok-Some.field-0-is at c.in-Ok-Some.ensures in
    first_row (map input_of c.args.inputs.now) c.args.epochs c.args.text.now c.in-Ok-Some.after.now c.quick_row.new.fields.items c.in-Ok-Some.input row c.if-epochs-gt0.true
