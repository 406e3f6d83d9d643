use Rattle.board.proofs.Looked.{LooksBelow}
use Rattle.board.proofs.board.Board.look_at_outputs.Given as goal

abbrev pub invariant-loop-output : goal.invariant-loop-output
invariant-loop-output g l = LooksBelow l.self l.epoch l.output l.outputs.items
