use Rattle.std.proofs.Common.{◌≡◌, ◌++◌, take}
use Rattle.field_kinds.proofs.columns.joined.Given as goal

-- so far
abbrev pub invariant-loop-kind : goal.invariant-loop-kind
invariant-loop-kind l = l.left.items ≡ l.fn.left.items ++ take l.kind-index l.right
