use Rattle.std.proofs.Common.{rules, ◌<◌, length, ap, arith}
use Rattle.expr_tree.specs.Plain.{plain_program}
use Rattle.expr_tree.specs.Views.{program_tree}
use Rattle.semantics.specs.Lower.{lowered}
use Rattle.graph.specs.Limits.{max_vertices}
use Rattle.lowering.specs.Faults.{IsTooMany}
use Rattle.graph.proofs.Numbers.{length_graph_of}
use Rattle.lowering.proofs.WholePrograms.{program_made, over_inputs, over_lets, over_outputs}
use Rattle.lowering.proofs.program.lower_vertices.Goals as goal

pub returns-in_err-lower_inputs-clause-many : goal.returns-in_err-lower_inputs-clause-many
returns-in_err-lower_inputs-clause-many g c =
    let p = plain_program (program_tree c.args.program.now) in
    let f : IsTooMany c.in_err-lower_inputs.field-0.0 → max_vertices < length (lowered p) =
    over_inputs _ p (rw (c.deref.ensures.value, c.new-made.ensures.items) at (c.in_err-lower_inputs.ensures.many)) in
    search rules

pub returns-in_err-lower_relations-clause-many : goal.returns-in_err-lower_relations-clause-many
returns-in_err-lower_relations-clause-many g c =
    let p = plain_program (program_tree c.args.program.now) in
    let e = rw (c.deref.ensures.value, c.new-made.ensures.items) at (c.in_ok-lower_inputs.ensures.made) in
    let s = rw (c.deref.ensures.value, c.new-made.ensures.items) at (c.in_ok-lower_inputs.ensures.names) in
    let f : IsTooMany c.in_err-lower_relations.field-0.0 → max_vertices < length (lowered p) =
    over_lets _ p c.lower_inputs.new.made.items _ e s (rw c.deref-2.ensures.value at (c.in_err-lower_relations.ensures.many)) in
    search rules

pub returns-in_err-lower_outputs-clause-many : goal.returns-in_err-lower_outputs-clause-many
returns-in_err-lower_outputs-clause-many g c =
    let p = plain_program (program_tree c.args.program.now) in
    let e = rw (c.deref.ensures.value, c.new-made.ensures.items) at (c.in_ok-lower_inputs.ensures.made) in
    let s = rw (c.deref.ensures.value, c.new-made.ensures.items) at (c.in_ok-lower_inputs.ensures.names) in
    let a = rw c.deref-2.ensures.value at (c.in_ok-lower_relations.ensures.ok) in
    let f : IsTooMany c.in_err-lower_outputs.field-0.0 → max_vertices < length (lowered p) =
    over_outputs _ p c.lower_inputs.new.made.items c.lower_relations.new.made.items _ _ e s a (rw c.deref-3.ensures.value at (c.in_err-lower_outputs.ensures.many)) in
    search rules

pub returns-then-len-gt-MAX_VERTICES-clause-many : goal.returns-then-len-gt-MAX_VERTICES-clause-many
returns-then-len-gt-MAX_VERTICES-clause-many g c =
    let p = plain_program (program_tree c.args.program.now) in
    let e = rw (c.deref.ensures.value, c.new-made.ensures.items) at (c.in_ok-lower_inputs.ensures.made) in
    let s = rw (c.deref.ensures.value, c.new-made.ensures.items) at (c.in_ok-lower_inputs.ensures.names) in
    let a = rw c.deref-2.ensures.value at (c.in_ok-lower_relations.ensures.ok) in
    let m = program_made p c.lower_inputs.new.made.items c.lower_relations.new.made.items c.lower_outputs.new.made.items _ _ e s a (rw c.deref-3.ensures.value at (c.in_ok-lower_outputs.ensures.made)) in
    λ t. omega (arith, c.if-len-gt-MAX_VERTICES.true, c.len.ensures, length_graph_of c.lower_outputs.new.made.items, ap length m)

pub returns-clause-ok : goal.returns-clause-ok
returns-clause-ok g c =
    let p = plain_program (program_tree c.args.program.now) in
    let e = rw (c.deref.ensures.value, c.new-made.ensures.items) at (c.in_ok-lower_inputs.ensures.made) in
    let s = rw (c.deref.ensures.value, c.new-made.ensures.items) at (c.in_ok-lower_inputs.ensures.names) in
    let a = rw c.deref-2.ensures.value at (c.in_ok-lower_relations.ensures.ok) in
    program_made p c.lower_inputs.new.made.items c.lower_relations.new.made.items c.lower_outputs.new.made.items _ _ e s a (rw c.deref-3.ensures.value at (c.in_ok-lower_outputs.ensures.made))
