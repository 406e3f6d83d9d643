use Rattle.board.specs.WorkerShown.{sides_of}
use Rattle.board.specs.Fresh.{HasFreshSides}
use Rattle.board.proofs.new_parts.new_workers.Given as goal

abbrev pub invariant-loop : goal.invariant-loop
invariant-loop l = HasFreshSides l.wiring.value l.counter (sides_of l.workers.items)
