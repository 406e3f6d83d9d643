use Rattle.std.proofs.Common.{◌≡◌, ◌++◌, take}
use Rattle.rows.specs.FlatRows.{arity_of, joined}
use Rattle.rows.specs.Counts.{expanded}
use Rattle.rows.proofs.batch.Batch.concat.Given as goal

abbrev pub invariant-loop-batch : goal.invariant-loop-batch
invariant-loop-batch l = (expanded l.rows.runs ≡ l.first ++ joined (take l.batch-index l.more)) × (l.rows.arity ≡ arity_of l.first)
