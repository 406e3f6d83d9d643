use Rattle.std.proofs.Common.{◌≡◌, ◌++◌, take}
use Rattle.collector.proofs.sameness.same_batches.Given as goal

abbrev pub invariant-loop-batch : goal.invariant-loop-batch
invariant-loop-batch l = l.right ≡ take l.batch-index l.left ++ l.rest
