use Rattle.std.proofs.Common.{◌≡◌, ◌<◌, ◌⊎◌, ℕ}
use Rattle.workers.specs.ThreadSets.{IsIn}
use Rattle.board.specs.Answers.{HasNoChoice}
use Rattle.workers.proofs.dispatcher.all_claimable.Given as goal

abbrev pub invariant-loop-thread : goal.invariant-loop-thread
invariant-loop-thread g l = record {
  shown : l.held.board.shown ≡ l.fn.held.board.shown;
  all : (n : ℕ) → n < l.thread → IsIn l.threads n → IsIn l.claimable n ⊎ HasNoChoice l.held.board.shown n;
}
