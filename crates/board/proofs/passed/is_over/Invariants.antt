use Rattle.std.proofs.Common.{◌<◌, ℕ}
use Rattle.views.specs.Waiting.{IsSeenBy}
use Rattle.board.specs.Seals.{NoneLeft}
use Rattle.board.proofs.passed.is_over.Given as goal

abbrev pub invariant-loop-output : goal.invariant-loop-output
invariant-loop-output g l = (k : ℕ) → k < l.output → NoneLeft (g.V.Views.graph l.views) (λ q. 0 < g.V.Views.content l.views q) l.state k l.epoch
    × NoneLeft (g.V.Views.graph l.views) (IsSeenBy (g.V.Views.content l.views) (g.V.Views.waiting l.views) (g.V.Views.workers l.views) 0) l.state k l.epoch
