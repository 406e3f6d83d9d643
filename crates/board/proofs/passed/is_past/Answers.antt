use Rattle.std.proofs.Common.{◌≡◌, ◌<◌, ◌∙◌, ℕ, sym, ap, subst}
use Rattle.std.specs.Prelude.{IsTrue, ◌↔◌}
use Rattle.semantics.specs.Could.{CouldResultIn, IsTimeAt, NoneOf, Pointstamp, at_vertex}
use Rattle.semantics.specs.Graph.{output_number}
use Rattle.semantics.specs.Time.{at_epoch}
use Rattle.graph.specs.Shown.{shown_graph}
use Rattle.views.specs.Waiting.{IsSeenBy}
use Rattle.board.proofs.passed.is_past.Goals as goal

pub none_before-requires-clause-known : goal.none_before-requires-clause-known
none_before-requires-clause-known g c =
    let at : c.output_place.result ≡ at_vertex (output_number (shown_graph c.args.state.now.graph) c.args.output) (at_epoch c.args.epoch) = c.output_place.ensures ∙ ap (λ (v : ℕ). at_vertex v (at_epoch c.args.epoch)) c.output-vertex.ensures in
    let P : Pointstamp → Type 0 = λ p. IsTimeAt (g.V.Views.graph c.args.views.now) p.location p.time in
    subst P (sym at) (c.requires.outputs c.args.output c.args.epoch c.requires.place)

pub returns-clause-there : goal.returns-clause-there
returns-clause-there g c =
    let at : c.output_place.result ≡ at_vertex (output_number (shown_graph c.args.state.now.graph) c.args.output) (at_epoch c.args.epoch) = c.output_place.ensures ∙ ap (λ (v : ℕ). at_vertex v (at_epoch c.args.epoch)) c.output-vertex.ensures in
    let N : Pointstamp → Type 0 = λ p. NoneOf (CouldResultIn (g.V.Views.graph c.args.views.now)) (λ q. 0 < g.V.Views.content c.args.views.now q) p in
    λ t. subst N at (c.none_before.ensures.there t)

pub returns-clause-seen : goal.returns-clause-seen
returns-clause-seen g c =
    let at : c.output_place.result ≡ at_vertex (output_number (shown_graph c.args.state.now.graph) c.args.output) (at_epoch c.args.epoch) = c.output_place.ensures ∙ ap (λ (v : ℕ). at_vertex v (at_epoch c.args.epoch)) c.output-vertex.ensures in
    let N : Pointstamp → Type 0 = λ p. IsTrue c.none_before.result ↔ NoneOf (CouldResultIn (g.V.Views.graph c.args.views.now)) (IsSeenBy (g.V.Views.content c.args.views.now) (g.V.Views.waiting c.args.views.now) (g.V.Views.workers c.args.views.now) 0) p in
    subst N at c.none_before.ensures.seen
