use Rattle.std.proofs.Common.{subst}
use Rattle.board.specs.Jobs.{Pass}
use Rattle.board.specs.Answers.{Holds}
use Rattle.driver.proofs.settling.compute.Goals as goal

pub returns-in-Ok-clause-fits : goal.returns-in-Ok-clause-fits
returns-in-Ok-clause-fits g c = λ whole holds. c.law_counts.ensures.fits c.args.work.0 holds (c.in-Ok.ensures.fits whole)

pub returns-in-Err-clause-over : goal.returns-in-Err-clause-over
returns-in-Err-clause-over g c = λ whole count.
    c.law_counts.ensures.over c.args.work.0 (subst (λ (p : Pass). Holds c.args.board.now.shown p) c.in-Err.ensures.spoiled.0 c.abandon.ensures.holds) (c.in-Err.ensures.over whole count)
