-- Where computing an event meets a count that is too large.
use Rattle.std.specs.Prelude.{◌⊎◌}
use Rattle.semantics.specs.Graph.{Graph, in_port}
use Rattle.semantics.specs.Kinds.{role}
use Rattle.semantics.specs.Shard.{Absorbed}
use Rattle.machine.specs.World.{Event}
use Rattle.rows.specs.Counts.{IsOver}
use Rattle.vertices.specs.Kept.{kept_by}
use Rattle.vertices.specs.Outs.{WouldNotifyOver, WouldSendOver}
use Rattle.vertices.specs.Shards.{Shows, shard_kind}
use Rattle.vertices.specs.declared.shard.Shard.{Shard}
use Rattle.events.specs.Jobs.{Job}
use Rattle.events.specs.Wired.{graph_in}

-- a count of what the shard would have absorbed, or of what it would send, is above the greatest count; a notification absorbs nothing
abbrev pub IsOverAt : Graph → Shard → Event → Absorbed → Type 0
IsOverAt g shard (Event.arrival m) a =
    IsOver (kept_by (role (shard_kind shard)) a (in_port g m.edge) m.time m.records) ⊎ WouldSendOver (shard_kind shard) m.time a (in_port g m.edge) m.records
IsOverAt g shard (Event.notification n) a = WouldNotifyOver (shard_kind shard) n.time a

-- a count is too large, whichever records the shard shows as absorbed
abbrev pub CountsOver : Job → Type 0
CountsOver j = (a : Absorbed) → Shows j.before a → IsOverAt (graph_in j.wired) j.before j.happening a

-- no count is too large
abbrev pub CountsFit : Job → Type 0
CountsFit j = (a : Absorbed) → Shows j.before a → IsOverAt (graph_in j.wired) j.before j.happening a → ⊥
