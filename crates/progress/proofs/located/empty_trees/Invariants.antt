use Rattle.std.proofs.Common.{◌≡◌, ℕ, [], length, slice_index_or}
use Rattle.progress.proofs.located.empty_trees.Given as goal

abbrev pub invariant-loop : goal.invariant-loop
invariant-loop l = record { long : length l.trees.items ≡ l.counter; empty : (i : ℕ) → slice_index_or l.trees.items i [] ≡ [] }
