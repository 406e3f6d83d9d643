use Rattle.std.proofs.Common.{◌≡◌, ◌++◌, take}
use Rattle.field_origins.specs.Shown.{origins}
use Rattle.field_origins.proofs.fields.push_origins.Given as goal

-- so far
abbrev pub invariant-loop-other : goal.invariant-loop-other
invariant-loop-other l = origins l.fields.items ≡ origins l.fn.fields.items ++ origins (take l.other-index l.others)
