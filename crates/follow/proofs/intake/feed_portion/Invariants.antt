use Rattle.std.proofs.Common.{◌≡◌, length}
use Rattle.follow.proofs.Fed.{SentSome}
use Rattle.follow.proofs.intake.feed_portion.Given as goal

abbrev pub invariant-loop-input : goal.invariant-loop-input
invariant-loop-input g l = record {
  end_is : l.input-end ≡ length l.fn.intake.portion.items;
  sent : SentSome l.fn.board.shown l.board.shown l.fn.intake l.intake l.input;
}
