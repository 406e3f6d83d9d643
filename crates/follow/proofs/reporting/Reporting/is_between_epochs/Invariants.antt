use Rattle.std.proofs.Common.{◌≡◌, length}
use Rattle.follow.proofs.Waiting.{AreZeroBelow}
use Rattle.follow.proofs.reporting.Reporting.is_between_epochs.Given as goal

abbrev pub invariant-loop-place : goal.invariant-loop-place
invariant-loop-place l = record {
  end_is : l.place-end ≡ length l.self.reported.items;
  below : AreZeroBelow l.self.reported.items l.place;
}
