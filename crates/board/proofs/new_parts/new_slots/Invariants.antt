use Rattle.board.specs.Fresh.{HasShards}
use Rattle.board.proofs.new_parts.new_slots.Given as goal

abbrev pub invariant-loop-number : goal.invariant-loop-number
invariant-loop-number l = HasShards l.graph l.number l.slots.items
