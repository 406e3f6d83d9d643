use Rattle.std.proofs.Common.{◌≡◌, ◌++◌, take, length}
use Rattle.rows.specs.Counts.{expanded, rows_of, runs}
use Rattle.semantics.specs.Meaning.{in_both}
use Rattle.semantics.specs.Multiset.{◌≈◌}
use Rattle.vertices.proofs.port_sets.meet_all.Given as goal

abbrev pub invariant-loop-place : goal.invariant-loop-place
invariant-loop-place l =
    (expanded l.tally.runs ≈ (expanded l.initial.tally.runs ++ expanded (take l.place (runs l.batch))))
    × ((l.sends.rows ++ in_both (rows_of l.initial.tally.runs) (rows_of l.other.runs)) ≈ (l.initial.sends.rows ++ in_both (rows_of l.tally.runs) (rows_of l.other.runs)))
    × (l.tally.arity ≡ l.initial.tally.arity)
    × (l.sends.arity ≡ l.initial.sends.arity)
    × (l.place-end ≡ length (runs l.batch))
