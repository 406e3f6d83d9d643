-- What a shard is, and what it shows.
use Rattle.std.specs.Prelude.{◌≡◌, ◌<◌, ℕ, []}
use Rattle.semantics.specs.Kinds as semantics
use Rattle.semantics.specs.Shard.{Absorbed}
pub use Rattle.vertices.specs.Kept.{by_port}
use Rattle.vertices.specs.Notified.{NotifiedShows, NotifiedTakes, notified_kind}
use Rattle.vertices.specs.Stateful.{StatefulShows, StatefulTakes, stateful_kind}
use Rattle.vertices.specs.Stateless.{StatelessTakes, stateless_kind}
use Rattle.vertices.specs.declared.shard.Shard.{Shard}
use Rattle.vertices.specs.declared.shard.Shard.TheVariants.{Input, Output, Stateless, Stateful, Notified}

-- the kind of its vertex
abbrev pub shard_kind : Shard → semantics.Kind
shard_kind Input = semantics.Kind.input
shard_kind Output = semantics.Kind.output
shard_kind (Stateless s) = stateless_kind s
shard_kind (Stateful s) = stateful_kind s.value
shard_kind (Notified s) = notified_kind s.value

-- records of that arity may come to that port
abbrev pub TakesArity : Shard → (port arity : ℕ) → Type 0
TakesArity Input port n = Unit {0}
TakesArity Output port n = Unit {0}
TakesArity (Stateless s) port n = StatelessTakes s n
TakesArity (Stateful s) port n = StatefulTakes s.value port n
TakesArity (Notified s) port n = NotifiedTakes s.value port n

-- The shard has absorbed these records, in some order. A shard without a state shows nothing of them; a spoiled one shows no list.
abbrev pub Shows : Shard → Absorbed → Type 0
Shows Input a = Unit {0}
Shows Output a = Unit {0}
Shows (Stateless s) a = Unit {0}
Shows (Stateful s) a = StatefulShows s.value a
Shows (Notified s) a = NotifiedShows s.value a

-- a shard of that kind, whose in ports take records of these arities, and which has absorbed nothing
pub record IsFreshShard (kind : semantics.Kind) (first second : ℕ) (shard : Shard) : Type 0 where
  pub kind_is : shard_kind shard ≡ kind
  pub takes : (port : ℕ) → port < semantics.in_ports kind → TakesArity shard port (by_port first second port)
  pub nothing : Shows shard (λ p t. [])
