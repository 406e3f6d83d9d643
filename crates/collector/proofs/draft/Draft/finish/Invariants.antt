use Rattle.std.proofs.Common.{◌≡◌, ℕ, [], length, get_or}
use Rattle.collector.specs.Piles.{AreAlike}
use Rattle.collector.proofs.draft.Draft.finish.Given as goal

abbrev pub invariant-loop-track : goal.invariant-loop-track
invariant-loop-track l = record {
  size : length l.kept.items ≡ length l.yielded;
  each : (input : ℕ) → AreAlike (get_or l.kept.items input []) (get_or l.yielded input []);
}
