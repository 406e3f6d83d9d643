use Rattle.std.proofs.Common.{◌≡◌, ◌<◌, ◌∙◌, ap, sym, subst}
use Rattle.semantics.specs.Could.{CouldResultIn, IsTimeAt, Location, NoOtherOf, Pointstamp}
use Rattle.machine.specs.Active.{request_pointstamp}
use Rattle.views.specs.Waiting.{IsSeenBy}
use Rattle.board.proofs.frontier.may_deliver.Goals as goal

pub in_frontier-requires-clause-known : goal.in_frontier-requires-clause-known
in_frontier-requires-clause-known g c =
    let at : c.new.result ≡ request_pointstamp c.args.request.now =
    c.new.ensures ∙ (λ i. record { time = c.copied.ensures i; location = Location.vertex c.request.inside.vertex.0 }) ∙ ap request_pointstamp c.request.view_is in
    let P : Pointstamp → Type 0 = λ p. IsTimeAt (g.V.Views.graph c.args.views.now) p.location p.time in
    subst P (sym at) c.requires.known

pub returns-clause-seen : goal.returns-clause-seen
returns-clause-seen g c =
    let at : c.new.result ≡ request_pointstamp c.args.request.now =
    c.new.ensures ∙ (λ i. record { time = c.copied.ensures i; location = Location.vertex c.request.inside.vertex.0 }) ∙ ap request_pointstamp c.request.view_is in
    let P : Pointstamp → Type 0 = λ p. NoOtherOf (CouldResultIn (g.V.Views.graph c.args.views.now)) (IsSeenBy (g.V.Views.content c.args.views.now) (g.V.Views.waiting c.args.views.now) (g.V.Views.workers c.args.views.now) c.args.worker) p in
    (λ t. subst P at (c.in_frontier.ensures.seen.0 t), λ h. c.in_frontier.ensures.seen.1 (subst P (sym at) h))

pub returns-clause-there : goal.returns-clause-there
returns-clause-there g c =
    let at : c.new.result ≡ request_pointstamp c.args.request.now =
    c.new.ensures ∙ (λ i. record { time = c.copied.ensures i; location = Location.vertex c.request.inside.vertex.0 }) ∙ ap request_pointstamp c.request.view_is in
    let P : Pointstamp → Type 0 = λ p. NoOtherOf (CouldResultIn (g.V.Views.graph c.args.views.now)) (λ q. 0 < g.V.Views.content c.args.views.now q) p in
    λ t. subst P at (c.in_frontier.ensures.there t)
