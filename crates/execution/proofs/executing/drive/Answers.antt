use Rattle.std.proofs.Common.{◌∙◌, subst, sym}
use Rattle.std.proofs.lemmas.Result.{IfOk-weaker}
use Rattle.board.specs.Shown.{Shown}
use Rattle.driver.specs.Tallies.{IsTally, Rows}
use Rattle.driver.proofs.Tallying.{tally_at}
use Rattle.execution.proofs.executing.drive.Goals as goal

pub counting-requires-clause-counts : goal.counting-requires-clause-counts
counting-requires-clause-counts g c =
    subst (λ (rows : Rows). IsTally g.J.Naming.first c.args.start.board.shown rows) (sym c.new-counters.ensures)
    (subst (λ (s : Shown). IsTally s c.args.start.board.shown c.args.start.tally) c.requires.first c.requires.begins)

pub returns-clause-graph : goal.returns-clause-graph
returns-clause-graph g c = IfOk-weaker c.finished.result _ _ (λ r same. (λ i. (same i).report.graph) ∙ c.finish_counting-report.ensures.graph) c.finished.ensures.same

pub returns-clause-counts : goal.returns-clause-counts
returns-clause-counts g c = IfOk-weaker c.finished.result _ _ (λ r same.
    tally_at g.J.Naming.first c.finish_counting-report.result.0 r.report c.finish_counting-report.result.1 r.tally (λ i. (same i).report) (λ i. (same i).tally) c.finish_counting-report.ensures.counts) c.finished.ensures.same
