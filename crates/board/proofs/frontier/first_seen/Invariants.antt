use Rattle.std.proofs.Common.{◌≡◌, ◌<◌, ℕ, Some, length, slice_get, slice_index}
use Rattle.machine.specs.World.{Request}
use Rattle.views.specs.Waiting.{IsSeenBy}
use Rattle.board.specs.Deliverable.{IsBlocked, IsDeliverable}
use Rattle.board.proofs.frontier.first_seen.Given as goal

abbrev pub invariant-loop-place : goal.invariant-loop-place
invariant-loop-place g l =
    ((at : ℕ) (r : Request) → at < l.place → slice_get l.requests.messages at ≡ Some r → IsDeliverable (g.V.Views.graph l.views) (IsSeenBy (g.V.Views.content l.views) (g.V.Views.waiting l.views) (g.V.Views.workers l.views) l.worker) r → ⊥)
    × ((i : ℕ) → i < length l.fronts.items → IsBlocked (g.V.Views.graph l.views) (IsSeenBy (g.V.Views.content l.views) (g.V.Views.waiting l.views) (g.V.Views.workers l.views) l.worker) l.requests.messages (slice_index l.fronts.items i))
