use Rattle.std.proofs.Common.{◌≤◌, ◌<◌, ℕ, IfNone, subst}
use Rattle.board.specs.WorkerShown.{WorkerShown}
use Rattle.board.specs.Merging.{AreAlike, window}
use Rattle.board.proofs.worker.Worker.next_alike.Goals as goal

pub returns-clause-none : goal.returns-clause-none
returns-clause-none c =
    let P : WorkerShown → Type 0 = λ z. IfNone c.next_alike.result ((at : ℕ) → c.args.from ≤ at → at < window → AreAlike z.side.mail at → ⊥) in
    subst P c.self.view_is c.next_alike.ensures.none
