use Rattle.std.proofs.Common.{◌≡◌, ◌≤◌, ℕ, ap, subst, arith}
use Rattle.views.specs.Waiting.{IsSeenBy}
use Rattle.board.specs.Lateness.{BoardShown, IsUpToDate}
use Rattle.board.specs.Promises.{CountsPassed}
use Rattle.board.specs.Seals.{IsFirstUncalled}
use Rattle.board.proofs.Called.{first_uncalled}
use Rattle.board.proofs.Lateness.{none_waits}
use Rattle.board.proofs.Passing.{known_most, seen_counts}
use Rattle.board.proofs.board.Board.passed_count.Goals as goal

pub returns-clause-kept : goal.returns-clause-kept
returns-clause-kept g c = ap (λ (b : BoardShown). record b { passed = c.passed_now-self-inside.result }) c.self.view_is

pub returns-clause-shown : goal.returns-clause-shown
returns-clause-shown g c = ap (λ (b : BoardShown). b.shown) c.self.view_is

pub returns-clause-rises : goal.returns-clause-rises
returns-clause-rises g c =
    subst (λ (z : BoardShown). z.passed ≤ c.passed_now-self-inside.result) c.self.view_is c.passed_now-self-inside.ensures.from

pub returns-clause-first : goal.returns-clause-first
returns-clause-first g c =
    let many : ℕ = c.passed_now-self-inside.result in
    subst (λ (z : BoardShown). IsFirstUncalled z many) c.self.view_is
    (first_uncalled (g.V.Views.graph c.self.inside.views) (g.V.Views.content c.self.inside.views) c.self.inside.state c.self.invariant.kept (g.V.Views.workers c.self.inside.views) (g.V.Views.waiting c.self.inside.views) (g.V.Views.behind c.self.inside.views 0) c.self.inside.passed c.self.invariant.viewers_are (g.met.V.Views.as_lists c.self.inside.views 0) many c.passed_now-self-inside.ensures.seen c.passed_now-self-inside.ensures.most)

pub returns-clause-most : goal.returns-clause-most
returns-clause-most g c =
    let many : ℕ = c.passed_now-self-inside.result in
    let P : BoardShown → Type 0 = λ z. (n : ℕ) → CountsPassed z.shown n → many ≤ n in
    subst P c.self.view_is (known_most (g.V.Views.graph c.self.inside.views) (g.V.Views.content c.self.inside.views) c.self.inside.state c.self.invariant.kept many c.passed_now-self-inside.ensures.passed)

pub returns-clause-seen : goal.returns-clause-seen
returns-clause-seen g c =
    let many : ℕ = c.passed_now-self-inside.result in
    let P : BoardShown → Type 0 = λ z. IsUpToDate z 0 → CountsPassed z.shown many in
    subst P c.self.view_is (λ up.
    let exactly = c.law_of_waiting.ensures.seen (g.V.Views.content c.self.inside.views) (g.V.Views.waiting c.self.inside.views) (g.V.Views.workers c.self.inside.views) 0 (none_waits c.self.inside.state (g.V.Views.workers c.self.inside.views) (g.V.Views.waiting c.self.inside.views) c.self.inside.passed 0 (let v = c.self.invariant.viewers_are in let l = c.self.invariant.kept.some in omega (arith, v, l)) up) in
    seen_counts (g.V.Views.graph c.self.inside.views) (g.V.Views.content c.self.inside.views) c.self.inside.state c.self.invariant.kept many (IsSeenBy (g.V.Views.content c.self.inside.views) (g.V.Views.waiting c.self.inside.views) (g.V.Views.workers c.self.inside.views) 0) (λ q is. (exactly q).0 is) c.passed_now-self-inside.ensures.passed c.passed_now-self-inside.ensures.most)

pub invariant_of-self : goal.invariant_of-self
invariant_of-self g c = record {
  kept = c.self.invariant.kept;
  viewers_are = c.self.invariant.viewers_are;
  closes = c.self.invariant.closes;
  prompt = c.self.invariant.prompt;
  passed_are = c.passed_now-self-inside.ensures.passed;
  passed_seen = c.passed_now-self-inside.ensures.seen;
}
