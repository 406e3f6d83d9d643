use Rattle.std.proofs.Common.{◌≡◌, ◌<◌, ◌≤◌, ◌++◌, ◌∷◌, ℕ, [], length, get_or}
use Rattle.collector.proofs.draft.Draft.begin.Given as goal

abbrev pub invariant-loop-input : goal.invariant-loop-input
invariant-loop-input l = record {
  count : l.self.count ≡ l.initial.self.count;
  size : length l.self.tracks.items ≡ length l.initial.self.tracks.items;
  done : (i : ℕ) → i < l.input → get_or l.self.tracks.items i [] ≡ get_or l.initial.self.tracks.items i [] ++ [] ∷ [];
  rest : (i : ℕ) → l.input ≤ i → get_or l.self.tracks.items i [] ≡ get_or l.initial.self.tracks.items i [];
}
