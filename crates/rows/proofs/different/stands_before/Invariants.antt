use Rattle.std.proofs.Common.{◌≡◌, ◌≤◌, []}
use Rattle.std.specs.Prelude.{slice_index_or}
use Rattle.rows.specs.Indexes.{any_below}
use Rattle.semantics.specs.Multiset.{same}
use Rattle.rows.proofs.different.stands_before.Given as goal

abbrev pub invariant-loop-newer : goal.invariant-loop-newer
invariant-loop-newer l =
    (l.newer ≤ l.place)
    × (any_below (λ k. same (slice_index_or l.rows.rows k []) (slice_index_or l.rows.rows l.place [])) l.place ≡ any_below (λ k. same (slice_index_or l.rows.rows k []) (slice_index_or l.rows.rows l.place [])) l.newer)

abbrev pub decreases-loop-newer : goal.decreases-loop-newer
decreases-loop-newer l = l.newer
