use Rattle.std.proofs.Common.{◌≡◌, ◌<◌, ℕ, pos}
use Rattle.std.specs.Prelude.{slice_index_or, ◌↔◌}
use Rattle.rows.proofs.numbers.same_block.Given as goal

abbrev pub invariant-loop-place : goal.invariant-loop-place
invariant-loop-place l = (l.difference ≡ pos 0) ↔ ((k : ℕ) → k < l.place → slice_index_or l.left k (pos 0) ≡ slice_index_or l.right k (pos 0))
