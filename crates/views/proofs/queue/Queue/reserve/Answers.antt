use Rattle.std.proofs.Common.{subst, sym, ap, arith}
use Rattle.views.specs.Queued.{Queued, IsSameQueue}
use Rattle.views.proofs.ReservedRoom.{more_free}
use Rattle.views.proofs.queue.Queue.reserve.Goals as goal

pub returns-in_ok-reserve-clause-same : goal.returns-in_ok-reserve-clause-same
returns-in_ok-reserve-clause-same c =
    let i = c.self-then-count-self.inside in
    let ts = i.taken.items in
    subst (λ l. IsSameQueue c.args.self.now (record { changes = l; taken = ts; free = c.args.count })) (sym c.reserve.ensures.items)
    (more_free c.args.self.now i.changes.items ts i.free c.args.count
    (subst (λ (q : Queued). IsSameQueue c.args.self.now q) (sym c.self-then-count-self.view_is) c.trim.ensures)
    (let a = c.if-count-self.true in let b = ap (λ (q : Queued). q.free) c.self.view_is in omega arith))
