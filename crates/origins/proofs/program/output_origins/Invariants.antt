use Rattle.std.proofs.Common.{◌≡◌, map, take}
use Rattle.expr_tree.specs.Views.{output_tree}
use Rattle.expr_tree.specs.Plain.{plain_output}
use Rattle.origins.specs.Relations.{rel_origins}
use Rattle.field_origins.specs.Shown.{origins}
use Rattle.origins.specs.Scopes.{scope_of}
use Rattle.origins.proofs.program.output_origins.Given as goal

-- so far
abbrev pub invariant-loop-output : goal.invariant-loop-output
invariant-loop-output g l = record {
  scope : scope_of l.scope ≡ scope_of l.fn.scope;
  found : map (λ w. origins w.items) l.fields.items ≡ map (λ o. rel_origins o.value (scope_of l.fn.scope) l.next) (map plain_output (map output_tree (take l.output-index l.outputs)));
}
