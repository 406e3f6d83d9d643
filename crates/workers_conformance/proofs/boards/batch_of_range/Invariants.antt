use Rattle.std.proofs.Common.{◌≡◌}
use Rattle.workers_conformance.proofs.boards.batch_of_range.Given as goal

abbrev pub invariant-loop-field : goal.invariant-loop-field
invariant-loop-field l = l.rows.arity ≡ 1
