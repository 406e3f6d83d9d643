use Rattle.std.proofs.Common.{◌≡◌, map, take}
use Rattle.field_origins.specs.Shown.{origins}
use Rattle.field_origins.specs.Sources.{Origin}
use Rattle.field_origins.proofs.loops.all_computed.Given as goal

-- so far
abbrev pub invariant-loop-field : goal.invariant-loop-field
invariant-loop-field l = origins l.computed.items ≡ map (λ o. Origin.computed) (origins (take l._field-index l.fields))
