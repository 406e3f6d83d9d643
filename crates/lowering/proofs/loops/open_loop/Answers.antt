use Rattle.std.proofs.Common.{◌≡◌, ◌+◌, [], ◌∷◌, suc, length, ap, ap₂, ◌∙◌, arith}
use Rattle.semantics.specs.Kinds as semantics
use Rattle.expr_tree.specs.Plain.{plain_form}
use Rattle.semantics.specs.Lower.{carry, held_turns, gate_of, new_vertex, port}
use Rattle.lowering.specs.Scopes.{ports_of}
use Rattle.graph.specs.Views.{graph_of, port_of}
use Rattle.lowering.proofs.Scopes.{gate_bound}
use Rattle.lowering.proofs.MoreVertices.{number_of, four_more}
use Rattle.lowering.proofs.loops.open_loop.Goals as goal

pub returns-clause-inside : goal.returns-clause-inside
returns-clause-inside g c =
    let a = number_of c.args.made.now.items c.add_vertex.new.made.items _ c.in_ok-first.ensures.made in
    let b = number_of c.add_vertex.new.made.items c.add_vertex-2.new.made.items _ c.in_ok-both.ensures.made in
    let d = number_of c.add_vertex-2.new.made.items c.add_vertex-3.new.made.items _ c.in_ok-gate.ensures.made in
    let n : length c.add_vertex-3.new.made.items ≡ suc (suc (suc (length c.args.made.now.items))) = omega (arith, a, b, d) in
    let e : length c.add_vertex-2.new.made.items ≡ suc (suc (length c.args.made.now.items)) = omega (arith, a, b) in
    gate_bound _ _ _ _ _ _ _ _ _ c.in_ok-names.ensures n (rw c.deref-3.ensures.value at (c.in_ok-carry_names.ensures.inside)) (rw e at (c.in_ok-gate.ensures.gives)) c.in_ok-bind.ensures.ok

pub returns-clause-made : goal.returns-clause-made
returns-clause-made g c =
    let k = length c.args.made.now.items in
    let one = number_of c.args.made.now.items c.add_vertex.new.made.items _ c.in_ok-first.ensures.made in
    let two = number_of c.add_vertex.new.made.items c.add_vertex-2.new.made.items _ c.in_ok-both.ensures.made in
    let three = number_of c.add_vertex-2.new.made.items c.add_vertex-3.new.made.items _ c.in_ok-gate.ensures.made in
    let inner : c.args.depth + 1 ≡ suc c.args.depth = omega arith in
    let second : length c.add_vertex.new.made.items ≡ suc k = omega (arith, one) in
    let fourth : length c.add_vertex-3.new.made.items ≡ suc (suc (suc k)) = omega (arith, one, two, three) in
    four_more (graph_of c.args.made.now.items) _ _ _ _ _ _ _ _ _ _ _ c.in_ok-first.ensures.made c.in_ok-both.ensures.made c.in_ok-gate.ensures.made (rw (c.deref-2.ensures.value, c.deref-3.ensures.value) at (c.in_ok-carry_names.ensures.made))
    (ap₂ (λ d p. new_vertex semantics.Kind.concat d (p ∷ p ∷ [])) inner c.in_ok-first.ensures.gives)
    (ap (λ w. new_vertex w (c.args.depth + 1) (port_of c.in_ok-both.both ∷ [])) c.gate_kind-kind.ensures ∙ ap₂ (λ d p. new_vertex (gate_of (plain_form c.args.head.form) c.args.head.turns) d (p ∷ [])) inner (c.in_ok-both.ensures.gives ∙ ap (λ n. port n 0) second))
    (λ i. carry (held_turns c.args.head.turns (c.in_ok-once.ensures i)) (ports_of c.args.scope.now) c.args.depth (fourth i) (c.in_ok-names.ensures i))
