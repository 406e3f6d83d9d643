use Rattle.views.specs.Waiting.{IsSeenBy}
use Rattle.board.specs.Deliverable.{IsDeliverable}
use Rattle.board.proofs.KthElements.{Remains}
use Rattle.board.proofs.choices.kth_deliverable.Given as goal

abbrev pub invariant-loop-place : goal.invariant-loop-place
invariant-loop-place g l = Remains (IsDeliverable (g.V.Views.graph l.views) (IsSeenBy (g.V.Views.content l.views) (g.V.Views.waiting l.views) (g.V.Views.workers l.views) l.worker)) l.requests.messages l.number l.place l.left
