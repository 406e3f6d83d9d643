use Rattle.board.proofs.Growing.{no_shards, shards_more}
use Rattle.board.proofs.new_parts.new_slots.Goals as goal

pub loop-number-init : goal.loop-number-init
loop-number-init c = rw c.in_ok-slots.ensures.items (no_shards c.args.graph.now)

pub loop-number-preserved : goal.loop-number-preserved
loop-number-preserved c =
    rw c.in_ok-push.ensures.items (shards_more c.args.graph.now c.loop-number.slots.items c.in_ok-new_slot.field-0 c.loop-number.number c.loop-number.invariant c.in_ok-new_slot.ensures)
