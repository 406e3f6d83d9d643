use Rattle.std.proofs.Common.{map}
use Rattle.rows.specs.FlatRows.{joined}
use Rattle.execution.specs.Fed.{HasEpochs}
use Rattle.execution.proofs.outputs.emitted_at_output.Given as goal

abbrev pub invariant-loop-epoch : goal.invariant-loop-epoch
invariant-loop-epoch g l = HasEpochs l.report l.output l.epoch (map (λ r. joined r.now) l.lists.items)
