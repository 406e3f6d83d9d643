use Rattle.execution.proofs.EmittedOutputs.{AreBelow}
use Rattle.execution.proofs.outputs.emitted.Given as goal

abbrev pub invariant-loop-output : goal.invariant-loop-output
invariant-loop-output g l = AreBelow l.report l.count l.outputs l.output l.emitted.items
