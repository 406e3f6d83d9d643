use Rattle.std.proofs.Common.{◌++◌, subst, sym}
use Rattle.collector.specs.Piecewise.{row_line}
use Rattle.commands.specs.Taken.{HasTaken}
use Rattle.commands.proofs.in_memory.InMemoryAnswering.take_row.Goals as goal

pub returns-in-Ok-true : goal.returns-in-Ok-true
returns-in-Ok-true g c = λ query taken has.
    subst (λ graph. HasTaken graph c.take_record.new.intake.reader query (taken ++ row_line c.args.name.now c.args.numbers.now)) (sym c.in-Ok-true.ensures.graph)
    (has.0, c.in-Ok-true.ensures.taken taken has.1 c.in-Ok-true.field-0-test)
