use Rattle.std.proofs.Common.{◌≡◌, ◌<◌, length, map, slice_index_or, ap, ◌∙◌, subst, arith}
use Rattle.expr_tree.specs.Plain.{plain_program}
use Rattle.expr_tree.specs.Views.{program_tree}
use Rattle.semantics.specs.Graph.{Graph, vertex}
use Rattle.semantics.specs.Lower.{lowered}
use Rattle.lowering.specs.Sent.{arity_in, sent}
use Rattle.graph.specs.Views.{kind_of, sources_of, vertex_of}
use Rattle.graph.proofs.Numbers.{length_graph_of, vertex_at}
use Rattle.lowering.proofs.VertexArities.{one_arity, one_counted, same_arities}
use Rattle.lowering.proofs.arities.arities_of.Goals as goal

pub loop-i-preserved : goal.loop-i-preserved
loop-i-preserved g c =
    let p = plain_program (program_tree c.args.program.now) in
    let vs = c.args.vertices.now in
    let i = c.loop-i.i in
    let v = c.index-vertices-i.result in
    let as' = c.loop-i.arities.items in
    let typed = c.law_arities.ensures.ports p c.requires.typed.0 c.requires.typed.1 in
    let lt : i < length (lowered p) = omega (arith, c.loop-i-test.true, length_graph_of vs, ap length c.requires.graph) in
    let x : vertex_of v ≡ vertex (lowered p) i = subst (λ (h : Graph). vertex_of v ≡ vertex h i) c.requires.graph (vertex_at vs i v c.loop-i-test.true c.index-vertices-i.is) in
    let d : c.declared_arity-declared.result ≡ slice_index_or (map (λ a. a.arity) p.inputs) i 0 =
    c.declared_arity-declared.ensures ∙ ap (λ l. slice_index_or l i 0) (ap (λ l. map (λ a. a.arity) l) c.deref.ensures.value ∙ same_arities c.args.program.now.inputs.items) in
    let s : c.sent_arity.result ≡ sent (kind_of v.kind) c.declared_arity-declared.result (arity_in as' (sources_of v.ins) 0) (arity_in as' (sources_of v.ins) 1) = rw c.deref-in-loop-i.ensures.value at c.sent_arity.ensures in
    one_counted p as' c.push.new.self.items i c.sent_arity.result typed lt c.loop-i.invariant
    (s ∙ one_arity p c.requires.typed.0 as' (vertex_of v) i c.declared_arity-declared.result c.requires.typed.1 typed (c.law_arities.ensures.inputs p) (c.law_program.ensures.input_vertices p) lt x d c.loop-i.invariant.1)
    c.in_ok-push.ensures.items

pub returns : goal.returns
returns g c =
    let p = plain_program (program_tree c.args.program.now) in
    let vs = c.args.vertices.now in
    let n : c.loop-i.i ≡ length (lowered p) = omega (arith, c.loop-i-test.false, c.loop-i.auto.i-end, length_graph_of vs, ap length c.requires.graph) in
    record { size = c.loop-i.invariant.0 ∙ n; each = λ v h. c.loop-i.invariant.1 v (omega (arith, h, n)) }
