use Rattle.std.proofs.Common.{◌≡◌, ◌∙◌, ap, subst, sym}
use Rattle.board.specs.Lateness.{BoardShown, IsUpToDate}
use Rattle.board.specs.Promises.{CountsPassed}
use Rattle.workers.proofs.report.report_of.Goals as goal

pub invariant_of-result : goal.invariant_of-result
invariant_of-result g c =
    let prompt = c.catch_up.ensures.prompt in
    subst (λ (b : BoardShown). IsUpToDate b 0 × CountsPassed b.shown b.passed) (sym c.passed_count-passed.ensures.kept) (prompt, c.passed_count-passed.ensures.seen prompt)

pub returns : goal.returns
returns g c = ap (λ (b : BoardShown). b.shown) c.passed_count-passed.ensures.kept ∙ c.catch_up.ensures.shown
