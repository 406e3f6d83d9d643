use Rattle.std.proofs.Common.{◌≡◌, ◌≤◌, ◌<◌, ℕ, List, IfNone, ap, subst}
use Rattle.board.specs.WorkerShown.{WorkerShown, sides_of}
use Rattle.board.specs.Merging.{AreAlike, window}
use Rattle.board.specs.Shown.{Shown, Side, side_at}
use Rattle.board.proofs.Handing.{read_at}
use Rattle.board.proofs.state.State.next_alike.Goals as goal

pub returns-clause-none : goal.returns-clause-none
returns-clause-none c =
    let s : Shown = c.args.self.now in
    let ds : List WorkerShown = c.self.inside.workers.items in
    let same : sides_of ds ≡ s.sides = ap (λ (x : Shown). x.sides) c.self.view_is in
    let x : c.index.result.now.side ≡ side_at s c.args.worker = read_at s ds same c.args.worker c.requires c.index.result.now c.index.ensures in
    let P : Side → Type 0 = λ z. IfNone c.next_alike.result ((at : ℕ) → c.args.from ≤ at → at < window → AreAlike z.mail at → ⊥) in
    subst P x c.next_alike.ensures.none
