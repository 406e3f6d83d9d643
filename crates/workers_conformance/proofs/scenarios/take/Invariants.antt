use Rattle.std.proofs.Common.{◌≡◌}
use Rattle.workers_conformance.proofs.scenarios.take.Given as goal

abbrev pub invariant-loop-step : goal.invariant-loop-step
invariant-loop-step g l = l.seat.table ≡ g.J.Naming.mark
