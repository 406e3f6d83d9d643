use Rattle.std.proofs.Common.{◌≡◌, ℕ, [], length, get_or}
use Rattle.collector.proofs.draft.Draft.new.Given as goal

abbrev pub invariant-loop-input : goal.invariant-loop-input
invariant-loop-input l = record {
  size : length l.tracks.items ≡ l._input;
  none : (i : ℕ) → get_or l.tracks.items i [] ≡ [];
}
