use Rattle.std.proofs.Common.{map}
use Rattle.record_core.specs.Inputs.{input_of}
use Rattle.collector.specs.Lines.{IsFault}
use Rattle.collector.proofs.Splits.{split_none, cut_at}
use Rattle.collector.proofs.first_line.any_line.Goals as goal

pub returns-in_default : goal.returns-in_default
returns-in_default c = split_none 10 c.args.text.now c.in_default.ensures.none

pub returns-in-Ok : goal.returns-in-Ok
returns-in-Ok c = (
  c.around.result.0.now,
  cut_at 10 c.args.text.now c.around.result.0.now c.around.result.1.now c.in-Some.end c.in-Some.ensures.found c.around.ensures.before c.around.ensures.after,
  c.around.ensures.shorter,
  c.in-Ok.ensures,
)

pub returns-in-Err-Fault : goal.returns-in-Err-Fault
returns-in-Err-Fault c =
    let bad : IsFault (map input_of c.args.inputs.now) c.args.epochs c.around.result.0.now c.in-Err-Fault.fault = rw c.in-Err-Fault.field-0-is at c.in-Err-Fault.ensures in
    rw c.in-Err-Fault.field-0-is (
      c.around.result.0.now,
      c.around.result.1.now,
      cut_at 10 c.args.text.now c.around.result.0.now c.around.result.1.now c.in-Some.end c.in-Some.ensures.found c.around.ensures.before c.around.ensures.after,
      bad,
    )
