use Rattle.std.proofs.Common.{◌≡◌, ◌<◌, ℕ}
use Rattle.workers.specs.ThreadSets.{IsIn}
use Rattle.board.specs.Answers.{HasNoChoice}
use Rattle.workers.proofs.dispatcher.first_claimable.Given as goal

abbrev pub invariant-loop-thread : goal.invariant-loop-thread
invariant-loop-thread g l = record {
  shown : l.held.board.shown ≡ l.fn.held.board.shown;
  none : (n : ℕ) → n < l.thread → IsIn l.threads n → HasNoChoice l.held.board.shown n;
}
