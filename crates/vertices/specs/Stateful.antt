-- The state of a vertex that sends what it gains.
use Rattle.std.specs.Prelude.{◌≡◌, ℕ, map}
use Rattle.expr_tree.specs.Plain.{plain_pair}
use Rattle.semantics.specs.Kinds.{Kind}
use Rattle.semantics.specs.Shard.{Absorbed}
use Rattle.vertices.specs.ByTime.{AreStatesOf}
use Rattle.vertices.specs.Joins.{IsSidesOf}
use Rattle.vertices.specs.Kept.{by_port}
use Rattle.vertices.specs.States.{IsSetOf, AreSetsOf}
use Rattle.vertices.specs.declared.stateful.Stateful.{Stateful}
use Rattle.vertices.specs.declared.stateful.Stateful.TheVariants.{Distinct, Join, Intersect}

-- the kind of its vertex
abbrev pub stateful_kind : Stateful → Kind
stateful_kind (Distinct s) = Kind.distinct
stateful_kind (Join s) = Kind.join (map plain_pair s.plan.pairs.items)
stateful_kind (Intersect s) = Kind.intersect

-- records of that arity may come to that port
abbrev pub StatefulTakes : Stateful → (port arity : ℕ) → Type 0
StatefulTakes (Distinct s) port n = n ≡ s.arity
StatefulTakes (Join s) port n = n ≡ by_port s.plan.left_arity s.plan.right_arity port
StatefulTakes (Intersect s) port n = n ≡ s.arity

-- it has absorbed these records, in some order
abbrev pub StatefulShows : Stateful → Absorbed → Type 0
StatefulShows (Distinct s) a = AreStatesOf (IsSetOf s.arity) s.times a
StatefulShows (Join s) a = AreStatesOf (IsSidesOf s.plan) s.times a
StatefulShows (Intersect s) a = AreStatesOf (AreSetsOf s.arity) s.times a
