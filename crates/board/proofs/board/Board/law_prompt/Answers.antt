use Rattle.std.proofs.Common.{subst}
use Rattle.board.specs.Lateness.{AreUpToDate}
use Rattle.board.proofs.Lateness.{up_to_date}
use Rattle.board.proofs.board.Board.law_prompt.Goals as goal

pub returns : goal.returns
returns g c late =
    subst AreUpToDate c.self.view_is (λ w. up_to_date c.self.inside.state (g.V.Views.workers c.self.inside.views) (g.V.Views.waiting c.self.inside.views) c.self.inside.passed w (λ k lw lk. c.self.invariant.prompt late w k lw lk))
