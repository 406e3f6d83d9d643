use Rattle.std.proofs.Common.{subst}
use Rattle.semantics.specs.Query.{Program}
use Rattle.board.specs.Promises.{KeepsPromise, RunsProgram}
use Rattle.board.specs.Shown.{Shown}
use Rattle.workers.proofs.report.Report.law_headline.Goals as goal

pub returns : goal.returns
returns g c = let P : Shown → Type 0 = λ s. (p : Program) → RunsProgram p s → KeepsPromise p s in subst P c.self.view_is c.law_headline.ensures
