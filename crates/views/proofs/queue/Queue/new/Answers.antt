use Rattle.std.proofs.Common.{arith, sym, subst}
use Rattle.views.specs.Queued.{IsQueue}
use Rattle.views.proofs.TakenBatches.{queue_none}
use Rattle.views.proofs.queue.Queue.new.Goals as goal

pub invariant_of-result : goal.invariant_of-result
invariant_of-result c = (omega (arith, c.new.ensures.len), subst (λ l. IsQueue l c.loop.taken.items) (sym c.new.ensures.items) (queue_none c.loop.taken.items c.loop.invariant.zeros))
