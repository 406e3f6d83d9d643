use Rattle.std.proofs.Common.{◌≡◌, ◌++◌, drop, map}
use Rattle.std.specs.Prelude.{option_map}
use Rattle.expr_tree.specs.Plain.{plain_input}
use Rattle.schema_check.specs.Checked.{input_kinds}
use Rattle.schema_check.proofs.tables.input_kinds.Given as goal

-- what was found, and what is left, are the answer
abbrev pub invariant-loop-input : goal.invariant-loop-input
invariant-loop-input l = input_kinds l.tables (map plain_input l.inputs) ≡ option_map (λ ys. map (λ w. w.items) l.kinds.items ++ ys) (input_kinds l.tables (map plain_input (drop l.input-index l.inputs)))
