use Rattle.std.proofs.Common.{◌≡◌, ◌≤◌, None, replicate}
use Rattle.std.specs.Prelude.{vec_capacity}
use Rattle.replay.proofs.hand.empty_hand.Given as goal

abbrev pub invariant-loop-worker : goal.invariant-loop-worker
invariant-loop-worker l = record {
  empty : l.hand.items ≡ replicate l._worker None;
  room : l.places ≤ vec_capacity l.hand;
}
