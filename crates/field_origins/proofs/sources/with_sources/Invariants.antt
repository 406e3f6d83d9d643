use Rattle.std.proofs.Common.{◌≡◌, drop}
use Rattle.field_origins.specs.Sources as spec
use Rattle.field_origins.proofs.sources.with_sources.Given as goal

-- what is left is added to what is there
abbrev pub invariant-loop-source : goal.invariant-loop-source
invariant-loop-source l = spec.with_sources l.all.items (drop l.source-index l.others) ≡ spec.with_sources l.sources l.others
