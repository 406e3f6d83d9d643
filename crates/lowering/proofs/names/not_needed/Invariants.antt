use Rattle.std.proofs.Common.{◌≡◌, filter, not, take}
use Rattle.semantics.specs.FreeNames.{has}
use Rattle.lowering.proofs.names.not_needed.Given as goal

abbrev pub invariant-loop-i : goal.invariant-loop-i
invariant-loop-i g l = l.kept.items ≡ filter (λ y. not (has y l.needed.items)) (take l.i l.names)
