use Rattle.std.proofs.Common.{length, subst, sym}
use Rattle.alone.specs.Scenes.{AreFreeBut}
use Rattle.follow.proofs.Calls.{ok_of, if_ok_of}
use Rattle.follow.proofs.Working.{parallel_worked}
use Rattle.follow.proofs.rounds.work_in_parallel.Goals as goal

pub returns-clause-worked : goal.returns-clause-worked
returns-clause-worked g c =
    let made = c.in_ok-round.ensures.made in
    let s = c.args.board.now.shown in
    parallel_worked _ c.claim_each-claimed.new.slots.items c.compute_each.new.slots.items (length s.sides) s c.claim_each-claimed.new.board.shown c.end_each-round.new.board.shown
    (ok_of c.claim_each-claimed.result _ made.0 c.claim_each-claimed.ensures.steps) (ok_of c.claim_each-claimed.result _ made.0 c.claim_each-claimed.ensures.none)
    c.compute_each.ensures.length (if_ok_of _ c.end_each-round.result _ made.1 c.end_each-round.ensures.steps)

pub returns-clause-free : goal.returns-clause-free
returns-clause-free g c =
    let made = c.in_ok-round.ensures.made in
    let claimed = ok_of c.claim_each-claimed.result _ made.0 c.claim_each-claimed.ensures.free in
    ok_of c.end_each-round.result _ made.1 c.end_each-round.ensures.free (subst (AreFreeBut c.claim_each-claimed.new.board.shown) (sym c.compute_each.ensures.workers) claimed)
