use Rattle.semantics.specs.Multiset.{◌≈◌}
use Rattle.rows.specs.FlatRows.{joined}
use Rattle.collector.specs.Piles.{piled}
use Rattle.collector.proofs.input_records.batches_of.Given as goal

abbrev pub invariant-loop-rows : goal.invariant-loop-rows
invariant-loop-rows l = joined l.batches.items ≈ piled l.yielded
