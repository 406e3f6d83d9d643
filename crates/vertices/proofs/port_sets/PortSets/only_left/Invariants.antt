use Rattle.std.proofs.Common.{◌≡◌, not, filter, take, length}
use Rattle.std.specs.List.{list_any}
use Rattle.rows.specs.Counts.{rows_of}
use Rattle.semantics.specs.Multiset.{same}
use Rattle.vertices.proofs.port_sets.PortSets.only_left.Given as goal

abbrev pub invariant-loop-place : goal.invariant-loop-place
invariant-loop-place l =
    (l.rows.rows ≡ filter (λ r. not (list_any (λ x. same x r) (rows_of l.self.right.runs))) (take l.place (rows_of l.self.left.runs)))
    × (l.rows.arity ≡ l.self.left.arity)
    × (l.place-end ≡ length l.self.left.runs)
