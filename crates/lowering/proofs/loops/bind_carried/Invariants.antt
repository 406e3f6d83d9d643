use Rattle.std.proofs.Common.{◌≡◌, ◌≤◌, ◌+◌, ◌*◌, length, drop}
use Rattle.semantics.specs.Lower.{carried_ports}
use Rattle.lowering.specs.Scopes.{Extends, ports_of}
use Rattle.lowering.proofs.loops.bind_carried.Given as goal

abbrev pub invariant-loop-left : goal.invariant-loop-left
invariant-loop-left l = (l.left ≤ length l.names) × (ports_of l.scope ≡ carried_ports (ports_of l.fn.scope) (l.first + 4 * l.left) (drop l.left l.names)) × Extends l.fn.scope l.scope

abbrev pub decreases-loop-left : goal.decreases-loop-left
decreases-loop-left l = l.left
