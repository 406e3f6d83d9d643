use Rattle.std.proofs.Common.{ap, ℕ, subst}
use Rattle.board.specs.Promises.{HasPassed, IsDrained}
use Rattle.board.specs.Shown.{Shown}
use Rattle.board.proofs.Promised.{drained}
use Rattle.board.specs.Lateness.{BoardShown}
use Rattle.board.proofs.board.Board.law_drained.Goals as goal

pub returns : goal.returns
returns g c =
    let P : Shown → Type 0 = λ z. IsDrained z → (k e : ℕ) → HasPassed z k e in
    subst P (ap (λ (b : BoardShown). b.shown) c.self.view_is) (drained (g.V.Views.graph c.self.inside.views) (g.V.Views.content c.self.inside.views) c.self.inside.state c.self.invariant.kept)
