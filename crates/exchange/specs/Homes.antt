-- The worker to which a routing sends a record.
use Rattle.std.specs.Prelude.{ℕ, false, true, Some, None}
use Rattle.semantics.specs.Multiset.{Record}
use Rattle.semantics.specs.Meaning.{project}
use Rattle.semantics.specs.Route.{home_by}
use Rattle.exchange.specs.declared.routing.Routing.{Routing}
use Rattle.exchange.specs.declared.routing.Routing.TheVariants.{ByKey, ByRecord, Stay}

-- the definition's home: by the key, by the whole record as for an input, or at the sender
abbrev pub home_of : Routing → (workers sender : ℕ) → Record → ℕ
home_of (ByKey columns) workers sender r = home_by (Some (project columns.items)) false workers sender r
home_of ByRecord workers sender r = home_by None true workers sender r
home_of Stay workers sender r = home_by None false workers sender r
