use Rattle.std.proofs.Common.{rules, ◌+◌, ◌++◌, length, map, sym, ap, ◌∙◌, append-nil}
use Rattle.expr_tree.specs.Plain.{plain_output}
use Rattle.expr_tree.specs.Views.{output_tree}
use Rattle.semantics.specs.Lower.{lower_outputs}
use Rattle.lowering.specs.Faults.{IsOver}
use Rattle.lowering.specs.Scopes.{ports_of}
use Rattle.graph.specs.Views.{graph_of}
use Rattle.lowering.proofs.NamedOutputs.{first_output, no_output, output_over, outputs_made, relation_over, rest_over}
use Rattle.lowering.proofs.program.+lower_outputs.Goals as goal

pub returns-in_err-from-in-len1-up-clause-many : goal.returns-in_err-from-in-len1-up-clause-many
returns-in_err-from-in-len1-up-clause-many g t c =
    let k = length c.args.made.now.items in
    let n = first_output c.args.outputs.now c.output-item.result c.in-len1-up.len_at_least c.output-item.is in
    let f : IsOver c.in_err-from-in-len1-up.field-0.0 (k + length (lower_outputs (map plain_output (map output_tree c.args.outputs.now)) (ports_of c.args.scope.now) k)) =
    relation_over _ k _ _ _ (ports_of c.args.scope.now) n (rw c.deref.ensures at (c.in_err-from-in-len1-up.ensures.many)) in
    search rules

pub returns-in_err-add_vertex-in-len1-up-clause-many : goal.returns-in_err-add_vertex-in-len1-up-clause-many
returns-in_err-add_vertex-in-len1-up-clause-many g t c =
    let k = length c.args.made.now.items in
    let n = first_output c.args.outputs.now c.output-item.result c.in-len1-up.len_at_least c.output-item.is in
    let i = rw c.deref.ensures at (c.in_ok-from-in-len1-up.ensures.ok) in
    let f : IsOver c.in_err-add_vertex-in-len1-up.field-0.0 (k + length (lower_outputs (map plain_output (map output_tree c.args.outputs.now)) (ports_of c.args.scope.now) k)) =
    output_over _ c.args.made.now.items c.lower_rel.new.made.items _ _ _ (ports_of c.args.scope.now) _ n i c.in_err-add_vertex-in-len1-up.ensures.many in
    search rules

pub returns-in_err-lower_outputs-in-len1-up-clause-many : goal.returns-in_err-lower_outputs-in-len1-up-clause-many
returns-in_err-lower_outputs-in-len1-up-clause-many g t c =
    let k = length c.args.made.now.items in
    let n = first_output c.args.outputs.now c.output-item.result c.in-len1-up.len_at_least c.output-item.is in
    let i = rw c.deref.ensures at (c.in_ok-from-in-len1-up.ensures.ok) in
    let f : IsOver c.in_err-lower_outputs-in-len1-up.field-0.0 (k + length (lower_outputs (map plain_output (map output_tree c.args.outputs.now)) (ports_of c.args.scope.now) k)) =
    rest_over _ c.args.made.now.items c.lower_rel.new.made.items c.add_vertex.new.made.items _ _ _ (ports_of c.args.scope.now) _ _ n i c.in_ok-add_vertex-in-len1-up.ensures.made (rw c.in_ok-from-in-len1-up.ensures.scope at (c.in_err-lower_outputs-in-len1-up.ensures.many)) in
    search rules

pub returns-in-empty-clause-made : goal.returns-in-empty-clause-made
returns-in-empty-clause-made g t c =
    sym (append-nil (graph_of c.args.made.now.items)) ∙ ap (λ l. graph_of c.args.made.now.items ++ l) (no_output c.args.outputs.now (ports_of c.args.scope.now) (length c.args.made.now.items) c.in-empty.len_below)

pub returns-in_ok-lower_outputs-in-len1-up-clause-made : goal.returns-in_ok-lower_outputs-in-len1-up-clause-made
returns-in_ok-lower_outputs-in-len1-up-clause-made g t c =
    let n = first_output c.args.outputs.now c.output-item.result c.in-len1-up.len_at_least c.output-item.is in
    let i = rw c.deref.ensures at (c.in_ok-from-in-len1-up.ensures.ok) in
    outputs_made c.args.made.now.items c.lower_rel.new.made.items c.add_vertex.new.made.items c.lower_outputs.new.made.items _ _ _ (ports_of c.args.scope.now) _ n i c.in_ok-add_vertex-in-len1-up.ensures.made (rw c.in_ok-from-in-len1-up.ensures.scope at (c.in_ok-lower_outputs-in-len1-up.ensures.made))
