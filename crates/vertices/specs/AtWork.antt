-- A shard between two events.
use Rattle.std.specs.Prelude.{◌≡◌, ℕ, ◌<◌}
use Rattle.semantics.specs.Kinds as semantics
use Rattle.semantics.specs.Shard.{Absorbed}
use Rattle.vertices.specs.Shards.{Shows, TakesArity, shard_kind}
use Rattle.vertices.specs.declared.shard.Shard.{Shard}

-- a shard of that role and of that many in ports, each of which takes records of that many fields; it shows some records
pub record IsAtWork (role : semantics.Role) (ports fields : ℕ) (shard : Shard) : Type 0 where
  pub role_is : semantics.role (shard_kind shard) ≡ role
  pub ports_are : semantics.in_ports (shard_kind shard) ≡ ports
  pub takes : (port : ℕ) → port < ports → TakesArity shard port fields
  pub whole : (a : Absorbed) × Shows shard a
