use Rattle.std.proofs.Common.{length, refl}
use Rattle.graph.specs.Shown.{shown_graph, shown_inputs, shown_names}
use Rattle.commands.proofs.Fitting.{reads_fit}
use Rattle.commands.proofs.RunEnds.{after_reading, ends_by}
use Rattle.commands.proofs.Heeding.{responds_heeds}
use Rattle.commands.proofs.Noting.{noted_after}
use Rattle.commands.proofs.Reporting.{reported_over}
use Rattle.commands.proofs.running.answer.Goals as goal

pub returns-clause-ends : goal.returns-clause-ends
returns-clause-ends g c = ends_by c.args.query.now c.args.input.now c.in-Ok.graph c.in-Ok-epochs_of_text.epochs _ _ _ c.in-Ok.ensures.graph c.in-Ok-epochs_of_text.ensures.read c.answer_epochs.ensures.text

pub returns-clause-read : goal.returns-clause-read
returns-clause-read g c = after_reading _ _ _ _ _ c.answer_epochs.result (c.answer_epochs.ensures.text c.args.query.now c.in-Ok.ensures.graph)

pub returns-clause-heeds : goal.returns-clause-heeds
returns-clause-heeds g c =
    responds_heeds c.args.query.now _ _ _ _ _ c.answer_epochs.result (shown_graph c.in-Ok.graph, shown_inputs c.in-Ok.graph, shown_names c.in-Ok.graph, c.in-Ok.ensures.graph, c.in-Ok.ensures.few)
    (c.answer_epochs.ensures.text c.args.query.now c.in-Ok.ensures.graph)

pub returns-clause-counts : goal.returns-clause-counts
returns-clause-counts g c =
    reported_over c.args.options.stats c.args.query.now c.args.input.now c.in-Ok.graph c.in-Ok-epochs_of_text.epochs (g.E.Write.contents c.args.streams.now.err) (g.E.Write.contents c.answer_epochs.new.streams.err) c.in-Ok.ensures.graph
    c.in-Ok-epochs_of_text.ensures.read c.answer_epochs.ensures.counts

pub returns-clause-early : goal.returns-clause-early
returns-clause-early g c =
    noted_after c.args.query.now c.args.input.now c.answer_epochs.new.early.items c.in-Ok.graph c.in-Ok-epochs_of_text.epochs (length (shown_inputs c.in-Ok.graph)) c.answer_epochs.result c.in-Ok.ensures.graph
    c.in-Ok-epochs_of_text.ensures.read refl c.answer_epochs.ensures.early

pub answer_epochs-requires-after_bounds : goal.answer_epochs-requires-after_bounds
answer_epochs-requires-after_bounds g c κs within = reads_fit c.in-Ok.graph c.args.input.now c.in-Ok-epochs_of_text.epochs c.law_inputs.ensures.inputs c.in-Ok-epochs_of_text.ensures.read
