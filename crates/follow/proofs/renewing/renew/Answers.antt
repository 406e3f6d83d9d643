use Rattle.std.proofs.Common.{◌+◌, arith, refl}
use Rattle.follow.proofs.Renewed.{renewed}
use Rattle.follow.proofs.renewing.renew.Goals as goal

pub returns-clause-renews : goal.returns-clause-renews
returns-clause-renews c = λ bytes start now w ends.
    let p = c.args.position.now in
    let none = c.is_between_epochs.ensures c.if-not-is_between_epochs.false in
    renewed c.args.plan.now.first.number c.args.plan.now.graph.value c.args.plan.now.workers.count c.args.board.now.shown c.in_ok-board.field-0.shown p.base c.in-Some.last (p.base + c.in-Some.last) p.intake _ p.reporting _ bytes p.pending.items start now c.in_ok-board.ensures.opening c.in_ok-board.ensures.shows refl refl refl refl refl none none c.if-position-last.false
    (omega (arith, c.in-Some.ensures)) refl w ends
