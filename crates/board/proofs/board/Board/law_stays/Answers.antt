use Rattle.std.proofs.Common.{ap, ◌≤◌, ℕ, subst}
use Rattle.machine.specs.Step.{Step}
use Rattle.board.specs.Kept.{Goes}
use Rattle.board.specs.Promises.{CountsPassed, HasPassed}
use Rattle.board.specs.Shown.{Shown}
use Rattle.board.proofs.Counts.{count_stays, has_passed_stays}
use Rattle.board.specs.Lateness.{BoardShown}
use Rattle.board.proofs.board.Board.law_stays.Goals as goal

pub returns-clause-passed : goal.returns-clause-passed
returns-clause-passed g c =
    let P : Shown → Type 0 = λ s. (step : Step) (next : Shown) → Goes s step next → (k e : ℕ) → HasPassed s k e → HasPassed next k e in
    subst P (ap (λ (b : BoardShown). b.shown) c.self.view_is) (λ step next goes. has_passed_stays (g.V.Views.graph c.self.inside.views) (g.V.Views.content c.self.inside.views) c.self.inside.state c.self.invariant.kept step next goes)

pub returns-clause-count : goal.returns-clause-count
returns-clause-count g c =
    let P : Shown → Type 0 = λ s. (step : Step) (next : Shown) → Goes s step next → (m n : ℕ) → CountsPassed s m → CountsPassed next n → m ≤ n in
    subst P (ap (λ (b : BoardShown). b.shown) c.self.view_is) (λ step next goes. count_stays (g.V.Views.graph c.self.inside.views) (g.V.Views.content c.self.inside.views) c.self.inside.state c.self.invariant.kept step next goes)
