use Rattle.std.proofs.Common.{ap, subst}
use Rattle.semantics.specs.Query.{Program}
use Rattle.board.specs.Promises.{KeepsPromise, RunsProgram}
use Rattle.board.specs.Shown.{Shown}
use Rattle.board.proofs.Promised.{headline}
use Rattle.board.specs.Lateness.{BoardShown}
use Rattle.board.proofs.board.Board.law_headline.Goals as goal

pub returns : goal.returns
returns g c =
    let P : Shown → Type 0 = λ z. (p : Program) → RunsProgram p z → KeepsPromise p z in
    subst P (ap (λ (b : BoardShown). b.shown) c.self.view_is) (headline (g.V.Views.graph c.self.inside.views) (g.V.Views.content c.self.inside.views) c.self.inside.state c.self.invariant.kept)
