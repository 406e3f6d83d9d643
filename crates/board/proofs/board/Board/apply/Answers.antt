use Rattle.std.proofs.Common.{◌≡◌, ◌<◌, ◌≤◌, ℕ, suc, true, false, refl, sym, ◌∙◌, subst, arith}
use Rattle.board.specs.Lateness.{first_of, BoardShown, KeepsCalled, waits_for}
use Rattle.board.specs.Shown.{Shown}
use Rattle.views.specs.Waiting.{IsApplied}
use Rattle.board.proofs.Counted.{keeps_same, kept_same}
use Rattle.board.proofs.Lateness.{applied_none, applied_nothing, applied_one, applied_some, counts_same, board_of, no_sender, no_worker, waits_same}
use Rattle.board.proofs.Called.{keeps_called}
use Rattle.board.proofs.Seeing.{none_applied, seen_applied, seen_moved}
use Rattle.board.proofs.board.Board.apply.Goals as goal

pub invariant_of-self : goal.invariant_of-self
invariant_of-self g c =
    let s : Shown = c.self.inside.state in
    let none : IsApplied c.args.worker c.args.sender (g.V.Views.waiting c.self.inside.views) (g.V.Views.waiting c.apply.new.self) false = subst (IsApplied c.args.worker c.args.sender (g.V.Views.waiting c.self.inside.views) (g.V.Views.waiting c.apply.new.self)) c.if-not-apply.true c.apply.ensures.applied in
    keeps_same (g.V.Views.graph c.self.inside.views) (g.V.Views.workers c.self.inside.views) (g.V.Views.content c.self.inside.views) (g.V.Views.waiting c.self.inside.views) (g.V.Views.room c.self.inside.views) g.V.Views.late c.self.inside.passed s c.self.invariant s (g.V.Views.graph c.apply.new.self) (g.V.Views.workers c.apply.new.self) (g.V.Views.content c.apply.new.self) (g.V.Views.waiting c.apply.new.self) (g.V.Views.room c.apply.new.self) c.apply.ensures.graph c.apply.ensures.workers c.apply.ensures.content (applied_nothing c.args.worker c.args.sender (g.V.Views.waiting c.self.inside.views) (g.V.Views.waiting c.apply.new.self) none c.apply.ensures.others) c.apply.ensures.room refl

pub apply-requires-clause-worker : goal.apply-requires-clause-worker
apply-requires-clause-worker g c = let l = c.if-worker-workers.false in let e = c.worker_count-workers.ensures in let v = c.self.invariant.viewers_are in omega (arith, l, e, v)

pub apply-requires-clause-sender : goal.apply-requires-clause-sender
apply-requires-clause-sender g c = let l = c.if-sender-workers.false in let e = c.worker_count-workers.ensures in let v = c.self.invariant.viewers_are in omega (arith, l, e, v)

pub invariant_of-self-2 : goal.invariant_of-self-2
invariant_of-self-2 g c =
    let s : Shown = c.self.inside.state in
    let one : IsApplied c.args.worker c.args.sender (g.V.Views.waiting c.self.inside.views) (g.V.Views.waiting c.apply.new.self) true = subst (IsApplied c.args.worker c.args.sender (g.V.Views.waiting c.self.inside.views) (g.V.Views.waiting c.apply.new.self)) c.if-not-apply.false c.apply.ensures.applied in
    let v = c.self.invariant.viewers_are in
    let e = c.worker_count-workers.ensures in
    record {
      kept = kept_same (g.V.Views.graph c.self.inside.views) (g.V.Views.graph c.apply.new.self) (g.V.Views.content c.self.inside.views) (g.V.Views.content c.apply.new.self) s c.self.invariant.kept c.apply.ensures.graph c.apply.ensures.content;
      viewers_are = c.apply.ensures.workers ∙ v;
      closes = (let r = c.self.invariant.closes in let p = c.apply.ensures.room in omega (arith, r, p));
      prompt = λ late w k l m. absurd (applied_some c.args.worker c.args.sender (g.V.Views.waiting c.self.inside.views) (g.V.Views.waiting c.apply.new.self) one (c.self.invariant.prompt late c.args.worker c.args.sender (let x = c.if-worker-workers.false in omega (arith, x, e, v)) (let y = c.if-sender-workers.false in omega (arith, y, e, v))));
      passed_are = c.self.invariant.passed_are;
      passed_seen = (let same = c.apply.ensures.graph in
          let workers = c.apply.ensures.workers in
          seen_moved (g.V.Views.graph c.self.inside.views) (g.V.Views.graph c.apply.new.self) (g.V.Views.workers c.self.inside.views) (g.V.Views.workers c.apply.new.self) (g.V.Views.content c.apply.new.self) (g.V.Views.waiting c.apply.new.self) s s c.self.inside.passed same workers refl
          (seen_applied (g.V.Views.graph c.self.inside.views) (g.V.Views.workers c.self.inside.views) c.args.worker (g.V.Views.content c.self.inside.views) (g.V.Views.content c.apply.new.self) (g.V.Views.waiting c.self.inside.views) (g.V.Views.waiting c.apply.new.self) c.apply.ensures.content (λ w k ne. c.apply.ensures.others w k (λ a b. ne a)) c.apply.ensures.stays s c.self.inside.passed c.self.invariant.passed_seen));
    }

pub returns-then-worker-workers-clause-applied : goal.returns-then-worker-workers-clause-applied
returns-then-worker-workers-clause-applied g c =
    let past : (g.V.Views.workers c.self.inside.views) ≤ c.args.worker = (let l = c.if-worker-workers.true in let e = c.worker_count-workers.ensures in let v = c.self.invariant.viewers_are in omega (arith, l, e, v)) in
    (subst (λ (b : BoardShown). waits_for b c.args.worker c.args.sender ≡ 0) c.self.view_is (no_worker c.self.inside.state (g.V.Views.workers c.self.inside.views) (g.V.Views.waiting c.self.inside.views) c.self.inside.passed c.args.worker c.args.sender past), refl)

pub returns-then-sender-workers-clause-applied : goal.returns-then-sender-workers-clause-applied
returns-then-sender-workers-clause-applied g c =
    let past : suc (g.V.Views.workers c.self.inside.views) ≤ c.args.sender = (let l = c.if-sender-workers.true in let e = c.worker_count-workers.ensures in let v = c.self.invariant.viewers_are in omega (arith, l, e, v)) in
    (subst (λ (b : BoardShown). waits_for b c.args.worker c.args.sender ≡ 0) c.self.view_is (no_sender c.self.inside.state (g.V.Views.workers c.self.inside.views) (g.V.Views.waiting c.self.inside.views) c.self.inside.passed c.args.worker c.args.sender past), refl)

pub returns-then-not-apply-clause-applied : goal.returns-then-not-apply-clause-applied
returns-then-not-apply-clause-applied g c =
    let s : Shown = c.self.inside.state in
    let v = c.self.invariant.viewers_are in
    let e = c.worker_count-workers.ensures in
    let none : IsApplied c.args.worker c.args.sender (g.V.Views.waiting c.self.inside.views) (g.V.Views.waiting c.apply.new.self) false = subst (IsApplied c.args.worker c.args.sender (g.V.Views.waiting c.self.inside.views) (g.V.Views.waiting c.apply.new.self)) c.if-not-apply.true c.apply.ensures.applied in
    let lw : c.args.worker < (g.V.Views.workers c.self.inside.views) = (let x = c.if-worker-workers.false in omega (arith, x, e, v)) in
    let lk : c.args.sender < suc (g.V.Views.workers c.self.inside.views) = (let y = c.if-sender-workers.false in omega (arith, y, e, v)) in (
      subst (λ (b : BoardShown). waits_for b c.args.worker c.args.sender ≡ 0) c.self.view_is (applied_none s (g.V.Views.workers c.self.inside.views) (g.V.Views.waiting c.self.inside.views) (g.V.Views.waiting c.apply.new.self) c.self.inside.passed c.args.worker c.args.sender lw lk none),
      (λ j. record { shown = s; waits = counts_same (g.V.Views.workers c.self.inside.views) (g.V.Views.workers c.apply.new.self) (g.V.Views.waiting c.self.inside.views) (g.V.Views.waiting c.apply.new.self) c.apply.ensures.workers (applied_nothing c.args.worker c.args.sender (g.V.Views.waiting c.self.inside.views) (g.V.Views.waiting c.apply.new.self) none c.apply.ensures.others) j; behind = first_of (suc (c.apply.ensures.workers j)) (λ k. c.apply.ensures.nothing c.if-not-apply.true 0 k j); passed = c.self.inside.passed }) ∙ c.self.view_is,
    )

pub returns-then-not-apply-clause-others : goal.returns-then-not-apply-clause-others
returns-then-not-apply-clause-others g c w k ne =
    let s : Shown = c.self.inside.state in
    let A : ℕ → Type 0 = λ m. waits_for (board_of s m (g.V.Views.waiting c.apply.new.self) (g.V.Views.behind c.apply.new.self 0) c.self.inside.passed) w k ≡ waits_for (board_of s (g.V.Views.workers c.self.inside.views) (g.V.Views.waiting c.self.inside.views) (g.V.Views.behind c.self.inside.views 0) c.self.inside.passed) w k in
    let B : BoardShown → Type 0 = λ z. waits_for (board_of s (g.V.Views.workers c.apply.new.self) (g.V.Views.waiting c.apply.new.self) (g.V.Views.behind c.apply.new.self 0) c.self.inside.passed) w k ≡ waits_for z w k in
    subst B c.self.view_is (subst A (sym c.apply.ensures.workers) (waits_same s (g.V.Views.workers c.self.inside.views) (g.V.Views.waiting c.self.inside.views) c.self.inside.passed s (g.V.Views.waiting c.apply.new.self) c.self.inside.passed w k (λ lw lk. c.apply.ensures.others w k ne)))

pub returns-clause-applied : goal.returns-clause-applied
returns-clause-applied g c =
    let s : Shown = c.self.inside.state in
    let v = c.self.invariant.viewers_are in
    let e = c.worker_count-workers.ensures in
    let one : IsApplied c.args.worker c.args.sender (g.V.Views.waiting c.self.inside.views) (g.V.Views.waiting c.apply.new.self) true = subst (IsApplied c.args.worker c.args.sender (g.V.Views.waiting c.self.inside.views) (g.V.Views.waiting c.apply.new.self)) c.if-not-apply.false c.apply.ensures.applied in
    let lw : c.args.worker < (g.V.Views.workers c.self.inside.views) = (let x = c.if-worker-workers.false in omega (arith, x, e, v)) in
    let lk : c.args.sender < suc (g.V.Views.workers c.self.inside.views) = (let y = c.if-sender-workers.false in omega (arith, y, e, v)) in
    let A : ℕ → Type 0 = λ m. waits_for (board_of s (g.V.Views.workers c.self.inside.views) (g.V.Views.waiting c.self.inside.views) (g.V.Views.behind c.self.inside.views 0) c.self.inside.passed) c.args.worker c.args.sender ≡ suc (waits_for (board_of s m (g.V.Views.waiting c.apply.new.self) (g.V.Views.behind c.apply.new.self 0) c.self.inside.passed) c.args.worker c.args.sender) in
    let B : BoardShown → Type 0 = λ z. waits_for z c.args.worker c.args.sender ≡ suc (waits_for (board_of s (g.V.Views.workers c.apply.new.self) (g.V.Views.waiting c.apply.new.self) (g.V.Views.behind c.apply.new.self 0) c.self.inside.passed) c.args.worker c.args.sender) in
    subst B c.self.view_is (subst A (sym c.apply.ensures.workers) (applied_one s (g.V.Views.workers c.self.inside.views) (g.V.Views.waiting c.self.inside.views) (g.V.Views.waiting c.apply.new.self) c.self.inside.passed c.self.inside.passed c.args.worker c.args.sender lw lk one))

pub returns-clause-others : goal.returns-clause-others
returns-clause-others g c w k ne =
    let s : Shown = c.self.inside.state in
    let A : ℕ → Type 0 = λ m. waits_for (board_of s m (g.V.Views.waiting c.apply.new.self) (g.V.Views.behind c.apply.new.self 0) c.self.inside.passed) w k ≡ waits_for (board_of s (g.V.Views.workers c.self.inside.views) (g.V.Views.waiting c.self.inside.views) (g.V.Views.behind c.self.inside.views 0) c.self.inside.passed) w k in
    let B : BoardShown → Type 0 = λ z. waits_for (board_of s (g.V.Views.workers c.apply.new.self) (g.V.Views.waiting c.apply.new.self) (g.V.Views.behind c.apply.new.self 0) c.self.inside.passed) w k ≡ waits_for z w k in
    subst B c.self.view_is (subst A (sym c.apply.ensures.workers) (waits_same s (g.V.Views.workers c.self.inside.views) (g.V.Views.waiting c.self.inside.views) c.self.inside.passed s (g.V.Views.waiting c.apply.new.self) c.self.inside.passed w k (λ lw lk. c.apply.ensures.others w k ne)))

pub returns-then-not-apply-clause-called : goal.returns-then-not-apply-clause-called
returns-then-not-apply-clause-called g c =
    let s : Shown = c.self.inside.state in
    let one = keeps_called (g.V.Views.graph c.self.inside.views) (g.V.Views.graph c.apply.new.self) (g.V.Views.workers c.self.inside.views) (g.V.Views.content c.self.inside.views) (g.V.Views.content c.apply.new.self) (g.V.Views.waiting c.self.inside.views) (g.V.Views.waiting c.apply.new.self) (g.V.Views.behind c.self.inside.views 0) (g.V.Views.behind c.apply.new.self 0) s s c.self.inside.passed c.self.inside.passed (g.met.V.Views.as_lists c.self.inside.views 0) (g.met.V.Views.as_lists c.apply.new.self 0) c.self.invariant.kept
    (kept_same (g.V.Views.graph c.self.inside.views) (g.V.Views.graph c.apply.new.self) (g.V.Views.content c.self.inside.views) (g.V.Views.content c.apply.new.self) s c.self.invariant.kept c.apply.ensures.graph c.apply.ensures.content)
    c.self.invariant.viewers_are c.self.invariant.viewers_are c.apply.ensures.graph
    (none_applied (g.V.Views.graph c.self.inside.views) (g.V.Views.workers c.self.inside.views) c.args.worker (g.V.Views.content c.self.inside.views) (g.V.Views.content c.apply.new.self) (g.V.Views.waiting c.self.inside.views) (g.V.Views.waiting c.apply.new.self) c.apply.ensures.content (λ w k ne. c.apply.ensures.others w k (λ a b. ne a)) c.apply.ensures.stays) in
    let A : ℕ → Type 0 = λ m. KeepsCalled (board_of s (g.V.Views.workers c.self.inside.views) (g.V.Views.waiting c.self.inside.views) (g.V.Views.behind c.self.inside.views 0) c.self.inside.passed) (board_of s m (g.V.Views.waiting c.apply.new.self) (g.V.Views.behind c.apply.new.self 0) c.self.inside.passed) in
    let B : BoardShown → Type 0 = λ z. KeepsCalled z (board_of s (g.V.Views.workers c.apply.new.self) (g.V.Views.waiting c.apply.new.self) (g.V.Views.behind c.apply.new.self 0) c.self.inside.passed) in
    subst B c.self.view_is (subst A (sym c.apply.ensures.workers) one)

pub returns-clause-called : goal.returns-clause-called
returns-clause-called g c =
    let s : Shown = c.self.inside.state in
    let one = keeps_called (g.V.Views.graph c.self.inside.views) (g.V.Views.graph c.apply.new.self) (g.V.Views.workers c.self.inside.views) (g.V.Views.content c.self.inside.views) (g.V.Views.content c.apply.new.self) (g.V.Views.waiting c.self.inside.views) (g.V.Views.waiting c.apply.new.self) (g.V.Views.behind c.self.inside.views 0) (g.V.Views.behind c.apply.new.self 0) s s c.self.inside.passed c.self.inside.passed (g.met.V.Views.as_lists c.self.inside.views 0) (g.met.V.Views.as_lists c.apply.new.self 0) c.self.invariant.kept
    (kept_same (g.V.Views.graph c.self.inside.views) (g.V.Views.graph c.apply.new.self) (g.V.Views.content c.self.inside.views) (g.V.Views.content c.apply.new.self) s c.self.invariant.kept c.apply.ensures.graph c.apply.ensures.content)
    c.self.invariant.viewers_are c.self.invariant.viewers_are c.apply.ensures.graph
    (none_applied (g.V.Views.graph c.self.inside.views) (g.V.Views.workers c.self.inside.views) c.args.worker (g.V.Views.content c.self.inside.views) (g.V.Views.content c.apply.new.self) (g.V.Views.waiting c.self.inside.views) (g.V.Views.waiting c.apply.new.self) c.apply.ensures.content (λ w k ne. c.apply.ensures.others w k (λ a b. ne a)) c.apply.ensures.stays) in
    let A : ℕ → Type 0 = λ m. KeepsCalled (board_of s (g.V.Views.workers c.self.inside.views) (g.V.Views.waiting c.self.inside.views) (g.V.Views.behind c.self.inside.views 0) c.self.inside.passed) (board_of s m (g.V.Views.waiting c.apply.new.self) (g.V.Views.behind c.apply.new.self 0) c.self.inside.passed) in
    let B : BoardShown → Type 0 = λ z. KeepsCalled z (board_of s (g.V.Views.workers c.apply.new.self) (g.V.Views.waiting c.apply.new.self) (g.V.Views.behind c.apply.new.self 0) c.self.inside.passed) in
    subst B c.self.view_is (subst A (sym c.apply.ensures.workers) one)
