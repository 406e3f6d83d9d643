use Rattle.std.proofs.Common.{◌≡◌, ◌⊎◌, inl, inr, ◌<◌, ◌≤◌, ℕ, length, subst, arith}
use Rattle.board.specs.Lateness.{BoardShown, waits_for}
use Rattle.board.specs.Shown.{Shown}
use Rattle.board.proofs.Lateness.{board_of, no_sender, no_worker}
use Rattle.board.proofs.board.Board.law_waits.Goals as goal

pub returns : goal.returns
returns g c =
    let s : Shown = c.self.inside.state in
    let v = c.self.invariant.viewers_are in
    let P : BoardShown → Type 0 = λ z. (w k : ℕ) → (length z.shown.sides ≤ w) ⊎ (length z.shown.sides < k) → waits_for z w k ≡ 0 in
    subst P c.self.view_is (λ w k past. by w k past)
  where
    by : (w k : ℕ) → (length c.self.inside.state.sides ≤ w) ⊎ (length c.self.inside.state.sides < k) → waits_for (board_of c.self.inside.state (g.V.Views.workers c.self.inside.views) (g.V.Views.waiting c.self.inside.views) (g.V.Views.behind c.self.inside.views 0) c.self.inside.passed) w k ≡ 0
    by w k (inl l) = no_worker c.self.inside.state (g.V.Views.workers c.self.inside.views) (g.V.Views.waiting c.self.inside.views) c.self.inside.passed w k (let v = c.self.invariant.viewers_are in omega (arith, l, v))
    by w k (inr l) = no_sender c.self.inside.state (g.V.Views.workers c.self.inside.views) (g.V.Views.waiting c.self.inside.views) c.self.inside.passed w k (let v = c.self.invariant.viewers_are in omega (arith, l, v))
