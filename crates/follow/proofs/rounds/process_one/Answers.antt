use Rattle.machine.specs.Step.{Step}
use Rattle.alone.proofs.Stepping.{one_step}
use Rattle.follow.proofs.Working.{ends_alone}
use Rattle.follow.proofs.rounds.process_one.Goals as goal

pub returns-in-Ok-clause-steps : goal.returns-in-Ok-clause-steps
returns-in-Ok-clause-steps g c =
    let ends = c.in-Ok.ensures.ends in
    let p = c.args.work.0 in
    one_step c.args.board.now.shown c.process.new.board.shown (Step.commit p.worker p.job.happening ends.1.0) tt ends.1.1

pub returns-in-Ok-clause-alone : goal.returns-in-Ok-clause-alone
returns-in-Ok-clause-alone g c =
    let ends = c.in-Ok.ensures.ends in
    let p = c.args.work.0 in
    ends_alone c.args.board.now.shown c.process.new.board.shown p.worker p.job.happening ends.1.0 c.law_run.ensures ends.1.1
