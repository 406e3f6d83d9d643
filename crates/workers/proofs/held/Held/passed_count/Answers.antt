use Rattle.std.proofs.Common.{◌≡◌, subst, sym}
use Rattle.board.specs.Promises.{CountsPassed}
use Rattle.workers.specs.Held.{HeldShown}
use Rattle.workers.proofs.held.Held.passed_count.Goals as goal

pub returns-clause-counts : goal.returns-clause-counts
returns-clause-counts g c =
    let P : HeldShown → Type 0 = λ h. CountsPassed h.board.shown c.number.result in
    subst P c.self.view_is (subst (CountsPassed c.self.inside.board.shown) (sym c.number.ensures) c.self.invariant.0.published)

pub returns-clause-published : goal.returns-clause-published
returns-clause-published g c = let P : HeldShown → Type 0 = λ h. c.number.result ≡ h.published in subst P c.self.view_is c.number.ensures
