use Rattle.std.proofs.Common.{◌≡◌, take}
use Rattle.field_kinds.proofs.columns.copied.Given as goal

-- so far
abbrev pub invariant-loop-kind : goal.invariant-loop-kind
invariant-loop-kind l = l.fields.items ≡ take l.kind-index l.kinds
