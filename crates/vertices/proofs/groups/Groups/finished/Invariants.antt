use Rattle.std.proofs.Common.{◌≡◌, ◌+◌, ◌++◌, List, map, take, length}
use Rattle.operators.specs.Aggregates.{stored_key}
use Rattle.semantics.specs.Meaning.{aggregate}
use Rattle.semantics.specs.Multiset.{Record}
use Rattle.vertices.specs.Groups.{AreGroupsOf, columns_of, aggregates_of, keyed, shown_key}
use Rattle.vertices.proofs.groups.Groups.finished.Given as goal

abbrev pub invariant-loop-place : goal.invariant-loop-place
invariant-loop-place l =
    ((xs : List Record) → AreGroupsOf l.operator l.self xs → l.rows.rows ≡ map (λ k. shown_key (columns_of l.operator) k ++ map (λ a. aggregate a (keyed (stored_key (columns_of l.operator)) k xs)) (aggregates_of l.operator)) (take l.place l.self.keys.rows))
    × (l.rows.arity ≡ length l.operator.columns.items + length l.operator.aggregates.items)
    × (l.place-end ≡ length l.self.keys.rows)
