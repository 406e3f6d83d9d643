use Rattle.std.proofs.Common.{◌≡◌, map, take}
use Rattle.field_origins.specs.Shown.{origins}
use Rattle.field_origins.specs.Sources.{traced}
use Rattle.field_origins.proofs.loops.turned.Given as goal

-- so far
abbrev pub invariant-loop-from : goal.invariant-loop-from
invariant-loop-from l = origins l.made.items ≡ map (traced l.variable (origins l.fields)) (origins (take l.from-index l.turn))
