use Rattle.std.proofs.Common.{◌≡◌, ◌<◌, ℕ}
use Rattle.collector.specs.ReadEpochs.{records_at}
use Rattle.execution.specs.Fed.{fed_at}
use Rattle.execution.proofs.readings.is_fed_at.Given as goal

abbrev pub invariant-loop-input : goal.invariant-loop-input
invariant-loop-input g l = (i : ℕ) → i < l.input → fed_at l.report i l.epoch ≡ records_at l.epochs l.epoch i
