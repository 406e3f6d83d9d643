use Rattle.std.proofs.Common.{◌≡◌, ◌<◌, ◌∙◌, ℕ, true, false, refl, sym, ap, subst, arith}
use Rattle.semantics.specs.Could.{CouldResultIn, IsTimeAt, NoneOf, Pointstamp, at_vertex}
use Rattle.semantics.specs.Graph.{output_number}
use Rattle.semantics.specs.Time.{at_epoch}
use Rattle.graph.specs.Shown.{shown_graph}
use Rattle.views.specs.Waiting.{IsSeenBy}
use Rattle.board.specs.Promises.{IsOutputPlace}
use Rattle.board.specs.Seals.{NoneLeft}
use Rattle.board.proofs.Passing.{passed_next}
use Rattle.board.proofs.passed.is_over.Goals as goal

pub loop-output-init : goal.loop-output-init
loop-output-init g c k l = absurd (omega (arith, l))

pub none_before-requires-clause-known : goal.none_before-requires-clause-known
none_before-requires-clause-known g c =
    let at : c.output_place.result ≡ at_vertex (output_number (shown_graph c.args.state.now.graph) c.loop-output.output) (at_epoch c.args.epoch) = c.output_place.ensures ∙ ap (λ (v : ℕ). at_vertex v (at_epoch c.args.epoch)) c.output.ensures in
    let there : IsOutputPlace c.args.state.now c.loop-output.output = (let many = c.output_count-output-end.ensures.value in let l = c.loop-output-test.true in omega (arith, many, l)) in
    let P : Pointstamp → Type 0 = λ p. IsTimeAt (g.V.Views.graph c.args.views.now) p.location p.time in
    subst P (sym at) (c.requires.outputs c.loop-output.output c.args.epoch there)

pub loop-output-preserved : goal.loop-output-preserved
loop-output-preserved g c k l =
    let at : c.output_place.result ≡ at_vertex (output_number (shown_graph c.args.state.now.graph) c.loop-output.output) (at_epoch c.args.epoch) = c.output_place.ensures ∙ ap (λ (v : ℕ). at_vertex v (at_epoch c.args.epoch)) c.output.ensures in
    let N : Pointstamp → Type 0 = λ p. NoneOf (CouldResultIn (g.V.Views.graph c.args.views.now)) (λ q. 0 < g.V.Views.content c.args.views.now q) p × NoneOf (CouldResultIn (g.V.Views.graph c.args.views.now)) (IsSeenBy (g.V.Views.content c.args.views.now) (g.V.Views.waiting c.args.views.now) (g.V.Views.workers c.args.views.now) 0) p in
    let here : N (at_vertex (output_number (shown_graph c.args.state.now.graph) c.loop-output.output) (at_epoch c.args.epoch)) = subst N at (c.none_before.ensures.there c.if-not-none_before.false, c.none_before.ensures.seen.0 c.if-not-none_before.false) in
    passed_next (λ j. NoneLeft (g.V.Views.graph c.args.views.now) (λ q. 0 < g.V.Views.content c.args.views.now q) c.args.state.now j c.args.epoch × NoneLeft (g.V.Views.graph c.args.views.now) (IsSeenBy (g.V.Views.content c.args.views.now) (g.V.Views.waiting c.args.views.now) (g.V.Views.workers c.args.views.now) 0) c.args.state.now j c.args.epoch) 0 c.loop-output.output here (λ j low less. c.loop-output.invariant j less) k (omega arith) l

pub returns-then-not-none_before-clause-seen : goal.returns-then-not-none_before-clause-seen
returns-then-not-none_before-clause-seen g c =
    let at : c.output_place.result ≡ at_vertex (output_number (shown_graph c.args.state.now.graph) c.loop-output.output) (at_epoch c.args.epoch) = c.output_place.ensures ∙ ap (λ (v : ℕ). at_vertex v (at_epoch c.args.epoch)) c.output.ensures in
    let there : IsOutputPlace c.args.state.now c.loop-output.output = (let many = c.output_count-output-end.ensures.value in let l = c.loop-output-test.true in omega (arith, many, l)) in
    let N : Pointstamp → Type 0 = λ p. NoneOf (CouldResultIn (g.V.Views.graph c.args.views.now)) (IsSeenBy (g.V.Views.content c.args.views.now) (g.V.Views.waiting c.args.views.now) (g.V.Views.workers c.args.views.now) 0) p in (
      λ t. absurd (let f : false ≡ true = t in cc),
      λ all.
          let t : true ≡ false = sym (c.none_before.ensures.seen.1 (subst N (sym at) (all c.loop-output.output there))) ∙ c.if-not-none_before.true in
          absurd cc,
    )

pub returns-clause-there : goal.returns-clause-there
returns-clause-there g c t k l = (c.loop-output.invariant k (let many = c.output_count-output-end.ensures.value in let end = c.loop-output-test.false in omega (arith, l, many, end))).0

pub returns-clause-seen : goal.returns-clause-seen
returns-clause-seen g c = (λ t k l. (c.loop-output.invariant k (let many = c.output_count-output-end.ensures.value in let end = c.loop-output-test.false in omega (arith, l, many, end))).1, λ all. refl)
