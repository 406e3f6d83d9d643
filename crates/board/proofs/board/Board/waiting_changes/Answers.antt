use Rattle.std.proofs.Common.{◌-◌, ◌^◌, ℕ, min, ap, ◌∙◌}
use Rattle.board.specs.Lateness.{all_waits}
use Rattle.board.proofs.Lateness.{all_wait}
use Rattle.board.proofs.board.Board.waiting_changes.Goals as goal

pub returns : goal.returns
returns g c =
    c.waiting.ensures ∙ ap (λ (n : ℕ). min (2 ^ 64 - 1) n) (all_wait c.self.inside.state (g.V.Views.workers c.self.inside.views) (g.V.Views.waiting c.self.inside.views) c.self.inside.passed ∙ ap all_waits c.self.view_is)
