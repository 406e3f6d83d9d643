use Rattle.std.proofs.Common.{◌++◌, sym, subst}
use Rattle.commands.specs.Taken.{HasTaken}
use Rattle.commands.proofs.in_memory.take_text.Goals as goal

pub returns-in-Ok : goal.returns-in-Ok
returns-in-Ok c = λ query text has.
    subst (λ graph. HasTaken graph c.take_lines.new.intake.reader query (text ++ c.args.lines.now)) (sym c.in-Ok.ensures.graph) (has.0, c.in-Ok.ensures.taken text has.1)
