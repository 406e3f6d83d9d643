use Rattle.std.proofs.Common.{◌≡◌, ◌<◌, ℕ, Option, Some, None, slice_get, IfNone}
use Rattle.machine.specs.World.{Request}
use Rattle.views.specs.Waiting.{IsSeenBy}
use Rattle.board.specs.Deliverable.{IsDeliverable}
use Rattle.board.proofs.frontier.first_deliverable.Goals as goal

pub returns-clause-none : goal.returns-clause-none
returns-clause-none g c = by c.first_seen.result c.first_seen.ensures.none
  where
    by : (o : Option ℕ)
        → IfNone o ((at : ℕ) (r : Request) → slice_get c.args.requests.now.messages at ≡ Some r → IsDeliverable (g.V.Views.graph c.args.views.now) (IsSeenBy (g.V.Views.content c.args.views.now) (g.V.Views.waiting c.args.views.now) (g.V.Views.workers c.args.views.now) c.args.worker) r → ⊥)
        → IfNone o ((at : ℕ) (r : Request) → slice_get c.args.requests.now.messages at ≡ Some r → IsDeliverable (g.V.Views.graph c.args.views.now) (λ q. 0 < g.V.Views.content c.args.views.now q) r → ⊥)
    by None none = λ at r e h.
        let seen = c.law_of_waiting.ensures.seen (g.V.Views.content c.args.views.now) (g.V.Views.waiting c.args.views.now) (g.V.Views.workers c.args.views.now) c.args.worker c.requires.prompt in
        none at r e (λ q there could. h q ((seen q).0 there) could)
    by (Some at) none = none
