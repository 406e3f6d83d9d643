use Rattle.execution.specs.Fed.{HoldsFed}
use Rattle.execution.proofs.readings.is_fed.Given as goal

abbrev pub invariant-loop-epoch : goal.invariant-loop-epoch
invariant-loop-epoch g l = HoldsFed l.report l.inputs l.epochs l.epoch
