use Rattle.std.proofs.Common.{subst}
use Rattle.events.specs.Jobs.{Pass}
use Rattle.follow.specs.Working.{EndsAlone}
use Rattle.machine.specs.Step.{Step}
use Rattle.driver.specs.Ends.{event_of}
use Rattle.alone.proofs.Stepping.{one_step}
use Rattle.follow.proofs.Working.{ends_alone}
use Rattle.follow.proofs.rounds.end.Goals as goal

pub returns-in-Ok-clause-steps : goal.returns-in-Ok-clause-steps
returns-in-Ok-clause-steps g c =
    let ends = c.in-Ok.ensures.ends in
    let p = event_of c.into_result.result in
    one_step c.args.board.now.shown c.settle.new.board.shown (Step.commit p.worker p.job.happening ends.1.0) tt ends.1.1

pub returns-in-Ok-clause-alone : goal.returns-in-Ok-clause-alone
returns-in-Ok-clause-alone g c =
    let ends = c.in-Ok.ensures.ends in
    let p = event_of c.into_result.result in
    subst (λ (e : Pass). EndsAlone c.args.board.now.shown c.settle.new.board.shown e.worker) c.into_result.ensures
    (ends_alone c.args.board.now.shown c.settle.new.board.shown p.worker p.job.happening ends.1.0 c.law_run.ensures ends.1.1)
