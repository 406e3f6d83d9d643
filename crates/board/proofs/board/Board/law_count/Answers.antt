use Rattle.std.proofs.Common.{ap, ◌≡◌, ◌<◌, ℕ, subst}
use Rattle.board.specs.Promises.{CountsPassed, HasPassed, IsOutputPlace}
use Rattle.board.specs.Shown.{Shown}
use Rattle.board.proofs.Counts.{counted, one_count}
use Rattle.board.specs.Lateness.{BoardShown}
use Rattle.board.proofs.Passing.{known_passed}
use Rattle.board.proofs.board.Board.law_count.Goals as goal

pub returns-clause-one : goal.returns-clause-one
returns-clause-one g c =
    let P : Shown → Type 0 = λ s. (m n : ℕ) → CountsPassed s m → CountsPassed s n → m ≡ n in
    subst P (ap (λ (b : BoardShown). b.shown) c.self.view_is) (one_count (g.V.Views.graph c.self.inside.views) (g.V.Views.content c.self.inside.views) c.self.inside.state c.self.invariant.kept)

pub returns-clause-below : goal.returns-clause-below
returns-clause-below g c =
    let P : Shown → Type 0 = λ s. (n : ℕ) → CountsPassed s n → (e : ℕ) → e < n → (k : ℕ) → IsOutputPlace s k → HasPassed s k e in
    subst P (ap (λ (b : BoardShown). b.shown) c.self.view_is) (counted (g.V.Views.graph c.self.inside.views) (g.V.Views.content c.self.inside.views) c.self.inside.state c.self.invariant.kept)

pub returns-clause-known : goal.returns-clause-known
returns-clause-known g c =
    let P : BoardShown → Type 0 = λ z. (e : ℕ) → e < z.passed → (k : ℕ) → IsOutputPlace z.shown k → HasPassed z.shown k e in
    subst P c.self.view_is (known_passed (g.V.Views.graph c.self.inside.views) (g.V.Views.content c.self.inside.views) c.self.inside.state c.self.invariant.kept c.self.inside.passed c.self.invariant.passed_are)
