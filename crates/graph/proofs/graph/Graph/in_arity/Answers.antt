use Rattle.std.proofs.Common.{◌≡◌, ℕ, List, length, slice_index_or, ap, sym, ◌∙◌, arith}
use Rattle.semantics.specs.Graph as graph
use Rattle.graph.specs.Shown.{shown_arities, shown_graph}
use Rattle.graph.specs.Views.{port_of}
use Rattle.graph.proofs.Numbers.{feeds, few_sources}
use Rattle.graph.proofs.graph.Graph.in_arity.Goals as goal

abbrev ins_of : graph.Vertex → List graph.Port
ins_of v = v.ins

abbrev vertex_in : graph.Port → ℕ
vertex_in p = p.vertex

pub returns-then-in_port-eq0 : goal.returns-then-in_port-eq0
returns-then-in_port-eq0 c =
    let g = shown_graph c.args.self.now in
    let fed = feeds g c.args.id.0 c.args.in_port 0 c.vertex.result.now _ c.vertex.ensures c.two_sources.ensures.first (sym c.if-in_port-eq0.true) in
    let seen = c.deref.ensures.value ∙ ap shown_arities c.self.view_is in
    c.arity_at.ensures ∙ ap (λ l. slice_index_or l (port_of c.two_sources.result.0).vertex 0) seen ∙ ap (λ p. slice_index_or (shown_arities c.args.self.now) (vertex_in p) 0) fed

pub returns-else-in_port-eq0 : goal.returns-else-in_port-eq0
returns-else-in_port-eq0 c =
    let g = shown_graph c.args.self.now in
    let one : 1 ≡ c.args.in_port = omega (arith, c.if-in_port-eq0.false, c.requires.port, few_sources c.vertex.result.now.ins, ap (λ v. length (ins_of v)) c.vertex.ensures) in
    let fed = feeds g c.args.id.0 c.args.in_port 1 c.vertex.result.now _ c.vertex.ensures c.two_sources.ensures.second one in
    let seen = c.deref-else-in_port-eq0.ensures.value ∙ ap shown_arities c.self.view_is in
    c.arity_at-else-in_port-eq0.ensures ∙ ap (λ l. slice_index_or l (port_of c.two_sources.result.1).vertex 0) seen ∙ ap (λ p. slice_index_or (shown_arities c.args.self.now) (vertex_in p) 0) fed
