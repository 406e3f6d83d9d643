use Rattle.std.proofs.Common.{◌≡◌, map, take}
use Rattle.expr_tree.specs.Plain.{plain_input}
use Rattle.record_core.specs.Inputs.{input_of}
use Rattle.lowering.proofs.lowered.declared_inputs.Given as goal

abbrev pub invariant-loop-input : goal.invariant-loop-input
invariant-loop-input g l = map input_of l.copy.items ≡ map plain_input (take l.input-index l.inputs.items)
