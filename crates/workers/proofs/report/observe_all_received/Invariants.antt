use Rattle.std.proofs.Common.{◌≡◌, ◌≤◌, All}
use Rattle.workers.specs.Tokens.{Token}
use Rattle.workers.proofs.report.observe_all_received.Given as goal

abbrev pub invariant-loop-seat : goal.invariant-loop-seat
invariant-loop-seat g l = (l.held ≡ l.fn.held) × All (λ (s : Token). s.number ≤ l.fn.held.received) l.yielded
