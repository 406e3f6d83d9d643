use Rattle.std.proofs.Common.{◌≤◌, length, subst, sym, arith}
use Rattle.views.specs.Queued.{Queued, IsQueue, IsSameQueue}
use Rattle.views.proofs.TakenBatches.{known_drop}
use Rattle.views.proofs.ReservedRoom.{queue_lowered, same_lowered, ends_at}
use Rattle.views.proofs.queue.Queue.trim.Goals as goal

pub invariant_of-self : goal.invariant_of-self
invariant_of-self c =
    let xs = c.self.inside.changes.items in
    let ts = c.self.inside.taken.items in
    let ts' = c.lower.new.taken.items in
    let m = c.least-gone.result in
    let k : m ≤ length xs = (let a = c.least-gone.ensures.all in let b = c.len.ensures in let d = c.self.inside.changes.ok.0 in omega arith) in (
      omega (arith, c.self.invariant.0, c.forget.ensures.len, c.forget.ensures.capacity),
      subst (λ l. IsQueue l ts') (sym c.forget.ensures.items) (queue_lowered xs ts ts' m c.self.invariant.1 c.lower.ensures.long c.lower.ensures.each
          (ends_at xs ts m c.len.result c.self.invariant.1 (let b = c.len.ensures in let d = c.self.inside.changes.ok.0 in omega arith) (rw c.deref.ensures.value at c.least-gone.ensures.some))),
    )

pub returns-then-gone-len : goal.returns-then-gone-len
returns-then-gone-len c =
    let xs = c.self.inside.changes.items in
    let ts = c.self.inside.taken.items in
    let ts' = c.lower.new.taken.items in
    let m = c.least-gone.result in
    let f = c.self.inside.free in
    subst (λ (q : Queued). IsSameQueue q (record { changes = c.forget.new.changes.items; taken = ts'; free = f })) c.self.view_is
    (subst (λ l. IsSameQueue (record { changes = xs; taken = ts; free = f }) (record { changes = l; taken = ts'; free = f })) (sym c.forget.ensures.items)
    (same_lowered xs ts ts' m c.self.invariant.1 c.lower.ensures.long c.lower.ensures.each f f (omega arith) (λ g k. known_drop g xs m k)))
