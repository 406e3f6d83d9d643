use Rattle.std.proofs.Common.{ap, arith}
use Rattle.workers.specs.Held.{HeldShown}
use Rattle.workers.proofs.report.finish_counting.Goals as goal

pub returns-clause-seats : goal.returns-clause-seats
returns-clause-seats g c = λ n counts k d lt.
    let same = c.report_on.ensures.published n counts in
    let is = ap (λ (h : HeldShown). h.published) c.observe_all.ensures.held in
    let still = ap (λ (h : HeldShown). h.published) c.observe_all_received.ensures.held in
    let within = c.observe_all.ensures.seats k d lt in
    omega (arith, same, is, still, within)

pub returns-clause-received : goal.returns-clause-received
returns-clause-received g c = λ k d lt.
    let most = c.report_on.ensures.received in
    let still = ap (λ (h : HeldShown). h.received) c.observe_all_received.ensures.held in
    let within = c.observe_all_received.ensures.seats k d lt in
    omega (arith, most, still, within)
