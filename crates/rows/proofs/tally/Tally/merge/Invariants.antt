use Rattle.std.proofs.Common.{◌≡◌, ◌++◌, take, length}
use Rattle.semantics.specs.Multiset.{◌≈◌}
use Rattle.rows.specs.Counts.{expanded}
use Rattle.rows.proofs.tally.Tally.merge.Given as goal

abbrev pub invariant-loop-place : goal.invariant-loop-place
invariant-loop-place l =
    (expanded l.self.runs ≈ (expanded l.initial.self.runs ++ expanded (take l.place l.rows.runs)))
    × (l.self.arity ≡ l.initial.self.arity)
    × (l.place-end ≡ length l.rows.runs)
