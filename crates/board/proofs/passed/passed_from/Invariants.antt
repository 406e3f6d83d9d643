use Rattle.std.proofs.Common.{◌<◌, ◌≤◌, ℕ}
use Rattle.views.specs.Waiting.{IsSeenBy}
use Rattle.board.specs.Seals.{NoneLeftAtAll}
use Rattle.board.proofs.passed.passed_from.Given as goal

abbrev pub invariant-loop-epoch : goal.invariant-loop-epoch
invariant-loop-epoch g l = (e : ℕ) → l.from ≤ e → e < l.epoch → NoneLeftAtAll (g.V.Views.graph l.views) (λ q. 0 < g.V.Views.content l.views q) l.state e
    × NoneLeftAtAll (g.V.Views.graph l.views) (IsSeenBy (g.V.Views.content l.views) (g.V.Views.waiting l.views) (g.V.Views.workers l.views) 0) l.state e
