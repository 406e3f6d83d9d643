use Rattle.std.proofs.Common.{◌≡◌, ◌∙◌, ◌<◌, ◌∷◌, [], sym, refl, arith, length, map, false, ap, ◌++◌}
use Rattle.std.specs.Prelude.{◌==◌}
use Rattle.std.proofs.lemmas.List.{map_push}
use Rattle.std.proofs.lemmas.Bool.Decides.{nat_tests}
use Rattle.collector.proofs.Splits.{split_none, cut_at}
use Rattle.schedule.specs.LineReader.{command_of}
use Rattle.schedule.specs.ScheduleText.{IsFault}
use Rattle.schedule.proofs.LinesRead.{next_read, faulty, unended}
use Rattle.schedule.proofs.reading.read_schedule.Goals as goal

pub returns-in-Err-Fault-clause-refused : goal.returns-in-Err-Fault-clause-refused
returns-in-Err-Fault-clause-refused c =
    let bad : IsFault c.args.kind c.around.result.0.now c.in-Err-Fault.fault = rw c.in-Err-Fault.field-0-is at c.in-Err-Fault.ensures in
    faulty c.args.kind c.args.text.now c.loop-end.rest.now c.around.result.0.now c.around.result.1.now c.loop-end.number (map command_of c.loop-end.lines.items) c.in-Err-Fault.fault c.code.result _ c.loop-end.invariant
    (cut_at 10 c.loop-end.rest.now c.around.result.0.now c.around.result.1.now c.in-Some.end c.in-Some.ensures.found c.around.ensures.before c.around.ensures.after) bad (rw c.in-Err-Fault.field-0-is at c.code.ensures) refl

pub loop-end-preserved : goal.loop-end-preserved
loop-end-preserved c =
    let more : map command_of c.push.new.self.items ≡ map command_of c.loop-end.lines.items ++ command_of c.in-Ok.said ∷ [] = ap (map command_of) c.in_ok-push-in-Ok.ensures.items ∙ map_push command_of c.loop-end.lines.items c.in-Ok.said in
    rw more (next_read c.args.kind c.args.text.now c.loop-end.rest.now c.around.result.0.now c.around.result.1.now c.loop-end.number (map command_of c.loop-end.lines.items) (command_of c.in-Ok.said) c.loop-end.invariant
    (cut_at 10 c.loop-end.rest.now c.around.result.0.now c.around.result.1.now c.in-Some.end c.in-Some.ensures.found c.around.ensures.before c.around.ensures.after) c.around.ensures.shorter c.in-Ok.ensures)

pub returns-then-not-is_empty-clause-refused : goal.returns-then-not-is_empty-clause-refused
returns-then-not-is_empty-clause-refused c =
    let filled : (length c.loop-end.rest.now == 0) ≡ false = sym c.if-not-is_empty.ensures in
    let some : 0 < length c.loop-end.rest.now = grind (arith, nat_tests) in
    unended c.args.kind c.args.text.now c.loop-end.rest.now c.loop-end.number (map command_of c.loop-end.lines.items) _ _ c.loop-end.invariant (split_none 10 c.loop-end.rest.now c.in_default.ensures.none) some refl refl
