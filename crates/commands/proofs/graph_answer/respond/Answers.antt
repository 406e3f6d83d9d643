use denote.Param.Send.{sendable}
use Rattle.std.proofs.Common.{◌∙◌, subst}
use Rattle.std.proofs.Crossing.{crosses}
use Rattle.graph.specs.Shown.{GraphValue}
use Rattle.collector.specs.Watching.{inner_of}
use Rattle.execution.proofs.Crossing.{direct_send, local_views_send}
use Rattle.commands.specs.Answers.{RespondsBy}
use Rattle.commands.specs.Reported.{ReportsFor}
use Rattle.commands.proofs.Reporting.{reported_for}
use Rattle.commands.proofs.graph_answer.respond.Goals as goal

-- a single worker
pub respond_on-requires-send-V : goal.respond_on-requires-send-V
respond_on-requires-send-V g c κs within = search (sendable, crosses, direct_send) depth 20

pub returns-in-Ok-new-clause-text : goal.returns-in-Ok-new-clause-text
returns-in-Ok-new-clause-text g c =
    subst (λ (graph : GraphValue). RespondsBy graph c.args.epochs.now (g.W.Write.contents (inner_of c.args.streams.now.out)) (g.W.Write.contents (inner_of c.respond_on.new.streams.out)) c.respond_on.result)
    (c.in-Ok-new.ensures.opening.graph ∙ c.in-Ok.ensures.ok) c.respond_on.ensures.text

-- several workers
pub respond_on-requires-in-Ok-with_local_views-send-V : goal.respond_on-requires-in-Ok-with_local_views-send-V
respond_on-requires-in-Ok-with_local_views-send-V g c κs within = search (sendable, crosses, local_views_send) depth 20

pub returns-in-Ok-with_local_views-clause-text : goal.returns-in-Ok-with_local_views-clause-text
returns-in-Ok-with_local_views-clause-text g c =
    let answered = c.respond_on-in-Ok-with_local_views in
    subst (λ (graph : GraphValue). RespondsBy graph c.args.epochs.now (g.W.Write.contents (inner_of c.args.streams.now.out)) (g.W.Write.contents (inner_of answered.new.streams.out)) answered.result)
    (c.in-Ok-with_local_views.ensures.opening.graph ∙ c.in-Ok.ensures.ok) answered.ensures.text

pub returns-in-Ok-with_local_views-clause-counts : goal.returns-in-Ok-with_local_views-clause-counts
returns-in-Ok-with_local_views-clause-counts g c =
    let answered = c.respond_on-in-Ok-with_local_views in
    subst (λ (graph : GraphValue). ReportsFor c.args.options.stats graph c.args.epochs.now (g.E.Write.contents c.args.streams.now.err) (g.E.Write.contents answered.new.streams.err)) c.in-Ok.ensures.ok
    (reported_for c.args.options.stats c.in-Ok-of.report c.in-Ok.graph.value _ c.in-Ok-with_local_views.board.shown c.args.epochs.now _ _ c.in-Ok-of.ensures c.in-Ok-with_local_views.ensures.opening answered.ensures.counts)
