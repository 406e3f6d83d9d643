use Rattle.std.proofs.Common.{◌≡◌, ◌≤◌, ◌-◌, ℕ, length}
use Rattle.std.specs.Prelude.{slice_index_or}
use Rattle.rows.proofs.counts_by_place.fill.Given as goal

abbrev pub invariant-loop-counts : goal.invariant-loop-counts
invariant-loop-counts l =
    ((rows : ℕ) → l.len ≤ rows → length l.initial.counts.items ≤ rows → length l.counts.items ≤ rows)
    × ((k : ℕ) → slice_index_or l.counts.items k 1 ≡ slice_index_or l.initial.counts.items k 1)

abbrev pub decreases-loop-counts : goal.decreases-loop-counts
decreases-loop-counts l = l.len - length l.counts.items
