use Rattle.std.proofs.Common.{◌≡◌, length}
use Rattle.follow.proofs.Waiting.{AreZero}
use Rattle.follow.proofs.reporting.Reporting.new.Given as goal

abbrev pub invariant-loop-output : goal.invariant-loop-output
invariant-loop-output l = record {
  zero : AreZero l.reported.items;
  room : length l.reported.items ≡ l._output;
}
