use Rattle.std.proofs.Common.{◌≡◌, ◌++◌, take, map}
use Rattle.std.specs.List.{flat_map}
use Rattle.expr_tree.specs.Plain.{plain_input}
use Rattle.compile.specs.Checked.{input_line}
use Rattle.compile.proofs.checking.push_inputs.Given as goal

abbrev pub invariant-loop-i : goal.invariant-loop-i
invariant-loop-i l = l.text.items ≡ l.initial.text.items ++ flat_map input_line (map plain_input (take l.i l.inputs))
