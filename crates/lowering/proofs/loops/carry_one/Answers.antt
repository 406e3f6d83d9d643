use Rattle.std.proofs.Common.{◌≡◌, ◌+◌, [], ◌∷◌, suc, length, ap, ap₂, ◌∙◌, arith}
use Rattle.semantics.specs.Graph as graph
use Rattle.semantics.specs.Kinds as semantics
use Rattle.semantics.specs.Lower.{new_vertex, port}
use Rattle.graph.specs.Views.{graph_of}
use Rattle.lowering.proofs.MoreVertices.{number_of, four_more}
use Rattle.lowering.proofs.loops.carry_one.Goals as goal

pub returns-clause-made : goal.returns-clause-made
returns-clause-made c =
    let k = length c.args.made.now.items in
    let one = number_of c.args.made.now.items c.add_vertex.new.made.items _ c.in_ok-first.ensures.made in
    let two = number_of c.add_vertex.new.made.items c.add_vertex-2.new.made.items _ c.in_ok-both.ensures.made in
    let inner : c.args.depth + 1 ≡ suc c.args.depth = omega arith in
    let back : c.in_ok-first.first.vertex.0 + 3 ≡ suc (suc (suc k)) = omega (arith, ap (λ (p : graph.Port). p.vertex) c.in_ok-first.ensures.gives) in
    let second : length c.add_vertex.new.made.items ≡ suc k = omega (arith, one) in
    let third : length c.add_vertex-2.new.made.items ≡ suc (suc k) = omega (arith, one, two) in
    four_more (graph_of c.args.made.now.items) _ _ _ _ _ _ _ _ _ _ _ c.in_ok-first.ensures.made c.in_ok-both.ensures.made c.in_ok-hold.ensures.made c.in_ok-add_vertex.ensures.made
    (ap₂ (λ d l. new_vertex semantics.Kind.concat d l) inner (ap₂ (λ p n. p ∷ port n 0 ∷ []) c.in_ok-first.ensures.gives back))
    (ap₂ (λ d p. new_vertex (semantics.Kind.hold c.args.turns) d (p ∷ [])) inner (c.in_ok-both.ensures.gives ∙ ap (λ n. port n 0) second))
    (ap₂ (λ d n. new_vertex semantics.Kind.feedback d (port n 1 ∷ []) ∷ []) inner (ap (λ (p : graph.Port). p.vertex) c.in_ok-hold.ensures.gives ∙ third))
