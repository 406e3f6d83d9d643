use Rattle.std.proofs.Common.{drop}
use Rattle.views.proofs.TakenBatches.{IsTaking}
use Rattle.views.proofs.batches.end_of_batch.Given as goal

abbrev pub invariant-loop-i : goal.invariant-loop-i
invariant-loop-i l = IsTaking (drop l.fn.from l.fn.changes) (drop l.i l.fn.changes)
