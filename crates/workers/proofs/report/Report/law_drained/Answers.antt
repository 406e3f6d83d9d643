use Rattle.std.proofs.Common.{ℕ, subst}
use Rattle.board.specs.Promises.{HasPassed, IsDrained}
use Rattle.board.specs.Shown.{Shown}
use Rattle.workers.proofs.report.Report.law_drained.Goals as goal

pub returns : goal.returns
returns g c = let P : Shown → Type 0 = λ s. IsDrained s → (k e : ℕ) → HasPassed s k e in subst P c.self.view_is c.law_drained.ensures
