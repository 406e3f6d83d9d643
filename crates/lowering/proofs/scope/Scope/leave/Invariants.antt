use Rattle.std.proofs.Common.{◌≡◌, length, take}
use Rattle.lowering.proofs.scope.Scope.leave.Given as goal

abbrev pub invariant-loop-self : goal.invariant-loop-self
invariant-loop-self l = take l.outside l.self ≡ take l.outside l.fn.self

abbrev pub decreases-loop-self : goal.decreases-loop-self
decreases-loop-self l = length l.self
