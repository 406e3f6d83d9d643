use Rattle.std.proofs.Common.{ap, arith}
use Rattle.workers.specs.Held.{HeldShown}
use Rattle.workers.proofs.report.finish.Goals as goal

pub returns-clause-seats : goal.returns-clause-seats
returns-clause-seats g c = λ n counts k d lt.
    let same = c.report_on-report.ensures.published n counts in
    let is = ap (λ (h : HeldShown). h.published) c.observe_all.ensures.held in
    let within = c.observe_all.ensures.seats k d lt in
    omega (arith, same, is, within)
