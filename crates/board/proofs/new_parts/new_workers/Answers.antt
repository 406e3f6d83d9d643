use Rattle.board.specs.WorkerShown.{sides_of}
use Rattle.board.proofs.Growing.{fresh_sides_more, no_sides, sides_more}
use Rattle.board.proofs.new_parts.new_workers.Goals as goal

pub loop-init : goal.loop-init
loop-init c = rw c.in_ok-workers.ensures.items (no_sides c.args.wiring.now.value)

pub loop-preserved : goal.loop-preserved
loop-preserved c =
    let x = c.in_ok-new_worker.field-0 in
    rw (c.in_ok-push.ensures.items, sides_more c.loop.workers.items x) (fresh_sides_more c.args.wiring.now.value (sides_of c.loop.workers.items) x.side c.loop.counter c.loop.invariant c.in_ok-new_worker.ensures)
