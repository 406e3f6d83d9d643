use Rattle.std.proofs.Common.{◌≡◌, ℕ, Some, length}
use Rattle.events.specs.Jobs.{Pass}
use Rattle.board.specs.Commits.{IsOf}
use Rattle.replay.specs.Hands.{in_hand}
use Rattle.replay.proofs.hand.abandon_hand.Given as goal

abbrev pub invariant-loop-rest : goal.invariant-loop-rest
invariant-loop-rest g l = (k : ℕ) (p : Pass) → in_hand l.rest.items k ≡ Some p → IsOf l.board.shown p

abbrev pub decreases-loop-rest : goal.decreases-loop-rest
decreases-loop-rest g l = length l.rest.items
