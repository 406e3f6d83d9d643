use Rattle.std.proofs.Common.{subst, sym}
use Rattle.board.specs.Promises.{CountsPassed}
use Rattle.board.specs.Shown.{Shown}
use Rattle.workers.proofs.report.Report.passed.Goals as goal

pub returns : goal.returns
returns g c =
    let P : Shown → Type 0 = λ s. CountsPassed s c.known_passed.result in
    subst P c.self.view_is (subst (CountsPassed c.self.inside.board.shown) (sym c.known_passed.ensures) c.self.invariant.1)
