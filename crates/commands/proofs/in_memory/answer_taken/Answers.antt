use Rattle.std.proofs.Common.{Some, Ok, ap, sym}
use Rattle.collector.specs.Watching.{inner_of}
use Rattle.graph.specs.Shown.{shown_inputs}
use Rattle.commands.proofs.AppendedAnswer.{run_of}
use Rattle.commands.proofs.Fitting.{taken_fit}
use Rattle.commands.proofs.RunEnds.{ends_by}
use Rattle.commands.proofs.in_memory.answer_taken.Goals as goal

pub answer_epochs-requires-after_bounds : goal.answer_epochs-requires-after_bounds
answer_epochs-requires-after_bounds g c κs within =
    let graph = c.args.intake.graph in
    taken_fit graph c.args.intake.reader c.in-Ok.epochs c.law_inputs.ensures.inputs (c.in-Ok.ensures.read (shown_inputs graph)) c.in-Ok.ensures.stopped c.args.intake.taken

pub returns-in-Ok-answer_epochs : goal.returns-in-Ok-answer_epochs
returns-in-Ok-answer_epochs g c = λ query text has.
    let old = Some (inner_of c.streams_in_memory-streams.result.out).items in
    let new = Some (inner_of c.answer_epochs.new.streams.out).items in
    run_of query text c.into_inner.result.items old new (ap Some c.streams_in_memory-streams.ensures) (ap (λ v. Some v.items) (sym c.into_inner.ensures))
    (ends_by query text c.args.intake.graph c.in-Ok.epochs old new (Ok tt) has.0 (c.in-Ok.ensures.read (shown_inputs c.args.intake.graph) text has.1) c.in-Ok-answer_epochs.ensures.text)
