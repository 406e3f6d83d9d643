use Rattle.std.proofs.Common.{◌≡◌, drop}
use Rattle.typing.specs.Verdict.{each, input_verdict}
use Rattle.typing.proofs.program.declare_inputs.Given as goal

-- what is left decides
abbrev pub invariant-loop-input : goal.invariant-loop-input
invariant-loop-input l = each input_verdict l.inputs l.fn.names ≡ each input_verdict (drop l.input-index l.inputs) l.names
