use Rattle.std.proofs.Common.{◌≡◌}
use Rattle.workers.proofs.held.Held.count_event.Given as goal

abbrev pub invariant-loop-worker : goal.invariant-loop-worker
invariant-loop-worker g l = (l.self.board.shown ≡ l.fn.self.board.shown) × (l.self.published ≡ l.fn.self.published)
