use Rattle.std.proofs.Common.{◌≤◌, ◌<◌, ℕ, IfNone, subst}
use Rattle.board.specs.Lateness.{BoardShown}
use Rattle.board.specs.Merging.{AreAlike, window}
use Rattle.board.specs.Shown.{side_at}
use Rattle.board.proofs.board.Board.next_alike.Goals as goal

pub returns-clause-none : goal.returns-clause-none
returns-clause-none g c =
    let P : BoardShown → Type 0 = λ z. IfNone c.next_alike.result ((at : ℕ) → c.args.from ≤ at → at < window → AreAlike (side_at z.shown c.args.worker).mail at → ⊥) in
    subst P c.self.view_is c.next_alike.ensures.none
