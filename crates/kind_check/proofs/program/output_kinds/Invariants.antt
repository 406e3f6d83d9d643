use Rattle.std.proofs.Common.{◌≡◌, ◌++◌, map, drop}
use Rattle.std.specs.Prelude.{option_map}
use Rattle.expr_tree.specs.Views.{output_tree}
use Rattle.expr_tree.specs.Plain.{plain_output}
use Rattle.kinds.specs.Relations.{all_of, rel_kinds}
use Rattle.kind_check.specs.Scopes.{scope_of}
use Rattle.kind_check.proofs.program.output_kinds.Given as goal

-- what was found, and what is left, are the answer
abbrev pub invariant-loop-output : goal.invariant-loop-output
invariant-loop-output g l = record {
  scope : scope_of l.scope ≡ scope_of l.fn.scope;
  found : all_of (map (λ o. rel_kinds l.named o.value (scope_of l.fn.scope)) (map plain_output (map output_tree l.outputs))) ≡ option_map (λ ys. map (λ w. w.items) l.kinds.items ++ ys) (all_of (map (λ o. rel_kinds l.named o.value (scope_of l.fn.scope)) (map plain_output (map output_tree (drop l.output-index l.outputs)))));
}
