use Rattle.std.proofs.Common.{◌≡◌, [], drop}
use Rattle.field_origins.specs.Shown.{origin, origins}
use Rattle.field_origins.specs.Sources as spec
use Rattle.field_origins.proofs.loops.traced_sources.Given as goal

-- what is left is added to what was found
abbrev pub invariant-loop-source : goal.invariant-loop-source
invariant-loop-source l = spec.traced_sources l.variable (origins l.fields) (origin l.found) (drop l.source-index l.sources) ≡ spec.traced_sources l.variable (origins l.fields) (spec.Origin.taken []) l.sources
