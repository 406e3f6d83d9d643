-- The state of a vertex that is notified.
use Rattle.std.specs.Prelude.{◌≡◌, ℕ, map}
use Rattle.expr_tree.specs.Plain.{plain_pair}
use Rattle.semantics.specs.Kinds.{Kind}
use Rattle.semantics.specs.Shard.{Absorbed}
use Rattle.vertices.specs.ByTime.{AreStatesOf}
use Rattle.vertices.specs.Groups.{columns_of, aggregates_of}
use Rattle.vertices.specs.Kept.{by_port}
use Rattle.vertices.specs.Lookups.{IsLookupOf}
use Rattle.vertices.specs.Piles.{IsPileThen}
use Rattle.vertices.specs.States.{AreSetsThen}
use Rattle.vertices.specs.Unseen.{IsUnseenOf}
use Rattle.vertices.specs.declared.notified.Notified.{Notified}
use Rattle.vertices.specs.declared.notified.Notified.TheVariants.{Group, Except, Unseen, Lookup}

-- the kind of its vertex
abbrev pub notified_kind : Notified → Kind
notified_kind (Group s) = Kind.group (columns_of s.operator) (aggregates_of s.operator)
notified_kind (Except s) = Kind.except
notified_kind (Unseen s) = Kind.unseen s.turns
notified_kind (Lookup s) = Kind.lookup (map plain_pair s.plan.pairs.items)

-- records of that arity may come to that port
abbrev pub NotifiedTakes : Notified → (port arity : ℕ) → Type 0
NotifiedTakes (Group s) port n = n ≡ s.arity
NotifiedTakes (Except s) port n = n ≡ s.arity
NotifiedTakes (Unseen s) port n = n ≡ s.came.arity
NotifiedTakes (Lookup s) port n = n ≡ by_port s.plan.left_arity s.plan.right_arity port

-- it has absorbed these records, in some order
abbrev pub NotifiedShows : Notified → Absorbed → Type 0
NotifiedShows (Group s) a = AreStatesOf (IsPileThen s.arity) s.times a
NotifiedShows (Except s) a = AreStatesOf (AreSetsThen s.arity) s.times a
NotifiedShows (Unseen s) a = IsUnseenOf s a
NotifiedShows (Lookup s) a = IsLookupOf s a
