use Rattle.std.proofs.Common.{◌≡◌, drop}
use Rattle.kinds.specs.Kinds.{is_named}
use Rattle.field_kinds.proofs.condition.is_named.Given as goal

-- what is left decides
abbrev pub invariant-loop-name : goal.invariant-loop-name
invariant-loop-name l = is_named l.named l.number ≡ is_named (drop l.name-index l.named) l.number
