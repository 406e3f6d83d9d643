use Rattle.std.proofs.Common.{subst, sym}
use Rattle.board.specs.Promises.{CountsPassed}
use Rattle.workers.proofs.report.report_on.Goals as goal

pub returns-clause-published : goal.returns-clause-published
returns-clause-published g c = λ n counts. c.law_count.ensures.one c.args.held.published n c.into_parts-board.ensures.passed counts

pub invariant_of-result : goal.invariant_of-result
invariant_of-result g c = (c.into_parts-board.ensures.prompt, subst (CountsPassed c.into_parts-board.result.0.shown) (sym c.into_parts-board.ensures.known) c.into_parts-board.ensures.passed)
