use Rattle.std.proofs.Common.{◌≡◌, subst}
use Rattle.board.specs.Promises.{CountsPassed}
use Rattle.workers.specs.Held.{HeldShown}
use Rattle.workers.proofs.held.Held.into_parts.Goals as goal

pub returns-clause-passed : goal.returns-clause-passed
returns-clause-passed g c = let P : HeldShown → Type 0 = λ h. CountsPassed c.self.inside.board.shown h.published in subst P c.self.view_is c.self.invariant.0.published

pub returns-clause-known : goal.returns-clause-known
returns-clause-known g c = let P : HeldShown → Type 0 = λ h. c.self.inside.board.passed ≡ h.published in subst P c.self.view_is c.self.invariant.0.known
