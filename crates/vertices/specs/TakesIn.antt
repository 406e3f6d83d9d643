-- What a shard does when it takes in a batch that comes to an in port at a time, whatever it has absorbed before.
use Rattle.std.specs.Prelude.{◌≡◌, ℕ, List}
use Rattle.rows.specs.Counts.{AllFit}
use Rattle.semantics.specs.Kinds.{out_ports, role}
use Rattle.semantics.specs.Multiset.{Record}
use Rattle.semantics.specs.Time.{Time}
use Rattle.semantics.specs.Shard.{Absorbed, absorbed_by}
use Rattle.vertices.specs.Kept.{kept_by}
use Rattle.vertices.specs.Outs.{GoesOver, SendsFor, asks_at, sent}
use Rattle.vertices.specs.Shards.{Shows, shard_kind}
use Rattle.vertices.specs.declared.out.Out.{Out}
use Rattle.vertices.specs.declared.shard.Shard.{Shard}

-- it has then absorbed the batch too
abbrev pub Absorbs : (old new : Shard) → (port : ℕ) → Time → List Record → Type 0
Absorbs old new port t batch = (a : Absorbed) → Shows old a → Shows new (absorbed_by (role (shard_kind old)) a port t batch)

-- it sends what its kind sends for the batch
abbrev pub SendsForBatch : Shard → (port : ℕ) → Time → List Record → Out → Type 0
SendsForBatch shard port t batch out = (a : Absorbed) → Shows shard a → SendsFor (shard_kind shard) t a port batch out

-- it asks to be notified exactly where its kind asks
abbrev pub AsksForBatch : Shard → Time → Out → Type 0
AsksForBatch shard t out = (a : Absorbed) → Shows shard a → out.asked ≡ asks_at (shard_kind shard) t a

-- the counts of the records fit that it then keeps of the port at the time
abbrev pub KeptFit : Shard → (port : ℕ) → Time → List Record → Type 0
KeptFit shard port t batch = (a : Absorbed) → Shows shard a → AllFit (kept_by (role (shard_kind shard)) a port t batch)

-- the counts of the records fit that it sends
abbrev pub SentFit : Shard → Out → Type 0
SentFit shard out = (port : ℕ) → AllFit (sent (out_ports (shard_kind shard)) out port)

-- it would keep or send a record too often
abbrev pub IsTooMuch : Shard → (port : ℕ) → Time → List Record → Type 0
IsTooMuch shard port t batch = (a : Absorbed) → Shows shard a → GoesOver (shard_kind shard) t a port batch
