use Rattle.std.proofs.Common.{◌≡◌, Some, subst}
use Rattle.board.specs.declared.sent.Sent.{Sent}
use Rattle.board.specs.Jobs.{Pass}
use Rattle.board.specs.TooMany.{CountsFit, CountsOver}
use Rattle.board.specs.Answers.{Holds}
use Rattle.driver.proofs.Settled.{computed_there, event_is, refused_there}
use Rattle.driver.proofs.settling.process.Goals as goal

pub returns-in-Ok-clause-fits : goal.returns-in-Ok-clause-fits
returns-in-Ok-clause-fits g c = λ whole.
    let own = event_is c.compute.result c.args.work.0 (λ e. e.0.1 ≡ Some e.1) c.compute.ensures.done c.compute.ensures.spoiled in
    c.law_counts.ensures.fits c.args.work.0 (subst (λ (p : Pass). Holds c.args.board.now.shown p) own c.in-Ok.ensures.ends.0)
    (computed_there c.compute.result c.in-Ok.sent (CountsFit c.args.work.0.job) c.in-Ok.ensures.fault (c.compute.ensures.fits whole))

pub returns-in-Err-clause-over : goal.returns-in-Err-clause-over
returns-in-Err-clause-over g c = λ whole count.
    let own = event_is c.compute.result c.args.work.0 (λ e. e.0.1 ≡ Some e.1) c.compute.ensures.done c.compute.ensures.spoiled in
    c.law_counts.ensures.over c.args.work.0 (subst (λ (p : Pass). Holds c.args.board.now.shown p) own c.in-Err.ensures.ends.0)
    (refused_there Sent c.compute.result c.in-Err.fault (CountsOver c.args.work.0.job) c.in-Err.ensures.fault count (c.compute.ensures.over whole))
