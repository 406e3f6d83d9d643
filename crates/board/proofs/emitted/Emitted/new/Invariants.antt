use Rattle.board.proofs.Outputs.{AreSilent}
use Rattle.board.proofs.emitted.Emitted.new.Given as goal

abbrev pub invariant-loop-made : goal.invariant-loop-made
invariant-loop-made l = AreSilent l.lists.items l.made
