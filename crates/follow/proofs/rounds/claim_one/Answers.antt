use Rattle.alone.proofs.Stepping.{hands_advance}
use Rattle.follow.proofs.Working.{idle_nothing, not_refused, takes_alone}
use Rattle.follow.proofs.rounds.claim_one.Goals as goal

pub unreachable-requires : goal.unreachable-requires
unreachable-requires g c =
    let claims = c.claim.ensures.claims in
    not_refused c.args.board.now.shown claims.0 c.claim.new.board.shown c.args.worker c.claim.result c.law_run.ensures claims.1 c.requires.there c.requires.free claims.2 c.in-Stopped.is

pub returns-in-Work-clause-some : goal.returns-in-Work-clause-some
returns-in-Work-clause-some g c =
    let claims = c.in-Work.ensures.claims in
    hands_advance c.args.board.now.shown claims.0 c.claim.new.board.shown c.args.worker c.in-Work.work.0 claims.1 claims.2.0

pub returns-in-Work-clause-alone : goal.returns-in-Work-clause-alone
returns-in-Work-clause-alone g c =
    let claims = c.in-Work.ensures.claims in
    (claims.2.0.worker, takes_alone c.args.board.now.shown claims.0 c.claim.new.board.shown c.args.worker c.in-Work.work.0 c.law_run.ensures claims.1 claims.2.0)

pub returns-in-Idle-clause-none : goal.returns-in-Idle-clause-none
returns-in-Idle-clause-none g c =
    let claims = c.claim.ensures.claims in
    idle_nothing c.args.board.now.shown claims.0 c.claim.new.board.shown c.args.worker c.claim.result c.law_run.ensures claims.1 claims.2 c.in-Idle.is
