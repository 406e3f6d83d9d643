use Rattle.std.proofs.Common.{◌≡◌, ◌<◌, ◌≤◌, ◌+◌, ℕ, suc, [], refl, sym, ◌∙◌, subst, arith}
use Rattle.board.specs.Lateness.{Applies, BoardShown, IsUpToDate}
use Rattle.board.specs.Shown.{Shown}
use Rattle.board.proofs.Counted.{kept_same}
use Rattle.board.proofs.Lateness.{board_of, no_worker, caught_fewer, caught_prompt, up_to_date, waits_same}
use Rattle.semantics.specs.Could.{CouldResultIn, NoneOf, Pointstamp}
use Rattle.views.specs.Waiting.{IsSeenBy}
use Rattle.board.proofs.Called.{keeps_called}
use Rattle.board.proofs.Seeing.{none_applied, seen_applied, seen_moved}
use Rattle.board.proofs.board.Board.catch_up.Goals as goal

pub catch_up-requires-clause-workers : goal.catch_up-requires-clause-workers
catch_up-requires-clause-workers g c = c.worker_count-workers.ensures ∙ sym c.self.invariant.viewers_are

pub catch_up-requires-clause-few : goal.catch_up-requires-clause-few
catch_up-requires-clause-few g c = let e = c.worker_count-workers.ensures in let f = c.self.invariant.kept.few in omega (arith, e, f)

pub catch_up-requires-clause-worker : goal.catch_up-requires-clause-worker
catch_up-requires-clause-worker g c = let l = c.if-worker-workers.false in let e = c.worker_count-workers.ensures in let v = c.self.invariant.viewers_are in omega (arith, l, e, v)

pub invariant_of-self : goal.invariant_of-self
invariant_of-self g c =
    let s : Shown = c.self.inside.state in
    let same : c.worker_count-workers.result ≡ (g.V.Views.workers c.self.inside.views) = c.worker_count-workers.ensures ∙ sym c.self.invariant.viewers_are in
    record {
      kept = kept_same (g.V.Views.graph c.self.inside.views) (g.V.Views.graph c.catch_up.new.views) (g.V.Views.content c.self.inside.views) (g.V.Views.content c.catch_up.new.views) s c.self.invariant.kept c.catch_up.ensures.graph c.catch_up.ensures.content;
      viewers_are = c.catch_up.ensures.workers ∙ c.self.invariant.viewers_are;
      closes = (let r = c.self.invariant.closes in let p = c.catch_up.ensures.room in omega (arith, r, p));
      prompt = λ late w k l m. caught_prompt (g.V.Views.workers c.self.inside.views) c.args.worker (g.V.Views.waiting c.self.inside.views) (g.V.Views.waiting c.catch_up.new.views) (λ j lj. c.catch_up.ensures.none j (omega (arith, lj, same))) c.catch_up.ensures.others (c.self.invariant.prompt late) w k (let e = c.catch_up.ensures.workers in omega (arith, l, e)) (let e = c.catch_up.ensures.workers in omega (arith, m, e));
      passed_are = c.self.invariant.passed_are;
      passed_seen = (let many : c.worker_count-workers.result ≡ (g.V.Views.workers c.self.inside.views) = c.worker_count-workers.ensures ∙ sym c.self.invariant.viewers_are in
          let P : ℕ → Type 0 = λ n. (p : Pointstamp) → NoneOf (CouldResultIn (g.V.Views.graph c.self.inside.views)) (IsSeenBy (g.V.Views.content c.self.inside.views) (g.V.Views.waiting c.self.inside.views) n c.args.worker) p → NoneOf (CouldResultIn (g.V.Views.graph c.self.inside.views)) (IsSeenBy (g.V.Views.content c.catch_up.new.views) (g.V.Views.waiting c.catch_up.new.views) n c.args.worker) p in
          seen_moved (g.V.Views.graph c.self.inside.views) (g.V.Views.graph c.catch_up.new.views) (g.V.Views.workers c.self.inside.views) (g.V.Views.workers c.catch_up.new.views) (g.V.Views.content c.catch_up.new.views) (g.V.Views.waiting c.catch_up.new.views) s s c.self.inside.passed c.catch_up.ensures.graph c.catch_up.ensures.workers refl
          (seen_applied (g.V.Views.graph c.self.inside.views) (g.V.Views.workers c.self.inside.views) c.args.worker (g.V.Views.content c.self.inside.views) (g.V.Views.content c.catch_up.new.views) (g.V.Views.waiting c.self.inside.views) (g.V.Views.waiting c.catch_up.new.views) c.catch_up.ensures.content c.catch_up.ensures.others (subst P many c.catch_up.ensures.stays) s c.self.inside.passed c.self.invariant.passed_seen));
    }

pub returns-clause-applies : goal.returns-clause-applies
returns-clause-applies g c =
    let s : Shown = c.self.inside.state in
    let same : c.worker_count-workers.result ≡ (g.V.Views.workers c.self.inside.views) = c.worker_count-workers.ensures ∙ sym c.self.invariant.viewers_are in
    let there : c.args.worker < (g.V.Views.workers c.self.inside.views) = (let l = c.if-worker-workers.false in omega (arith, l, same)) in
    let old : BoardShown = board_of s (g.V.Views.workers c.self.inside.views) (g.V.Views.waiting c.self.inside.views) (g.V.Views.behind c.self.inside.views 0) c.self.inside.passed in
    let none : (k : ℕ) → k < (g.V.Views.workers c.self.inside.views) + 1 → (g.V.Views.waiting c.catch_up.new.views) c.args.worker k ≡ [] = λ k l. c.catch_up.ensures.none k (omega (arith, l, same)) in
    let P : ℕ → Type 0 = λ n. (p : Pointstamp) → NoneOf (CouldResultIn (g.V.Views.graph c.self.inside.views)) (IsSeenBy (g.V.Views.content c.self.inside.views) (g.V.Views.waiting c.self.inside.views) n c.args.worker) p → NoneOf (CouldResultIn (g.V.Views.graph c.self.inside.views)) (IsSeenBy (g.V.Views.content c.catch_up.new.views) (g.V.Views.waiting c.catch_up.new.views) n c.args.worker) p in
    let called = keeps_called (g.V.Views.graph c.self.inside.views) (g.V.Views.graph c.catch_up.new.views) (g.V.Views.workers c.self.inside.views) (g.V.Views.content c.self.inside.views) (g.V.Views.content c.catch_up.new.views) (g.V.Views.waiting c.self.inside.views) (g.V.Views.waiting c.catch_up.new.views) (g.V.Views.behind c.self.inside.views 0) (g.V.Views.behind c.catch_up.new.views 0) s s c.self.inside.passed c.self.inside.passed (g.met.V.Views.as_lists c.self.inside.views 0) (g.met.V.Views.as_lists c.catch_up.new.views 0) c.self.invariant.kept
    (kept_same (g.V.Views.graph c.self.inside.views) (g.V.Views.graph c.catch_up.new.views) (g.V.Views.content c.self.inside.views) (g.V.Views.content c.catch_up.new.views) s c.self.invariant.kept c.catch_up.ensures.graph c.catch_up.ensures.content)
    c.self.invariant.viewers_are c.self.invariant.viewers_are c.catch_up.ensures.graph
    (none_applied (g.V.Views.graph c.self.inside.views) (g.V.Views.workers c.self.inside.views) c.args.worker (g.V.Views.content c.self.inside.views) (g.V.Views.content c.catch_up.new.views) (g.V.Views.waiting c.self.inside.views) (g.V.Views.waiting c.catch_up.new.views) c.catch_up.ensures.content c.catch_up.ensures.others (subst P same c.catch_up.ensures.stays)) in
    let one : Applies c.args.worker old (board_of s (g.V.Views.workers c.self.inside.views) (g.V.Views.waiting c.catch_up.new.views) (g.V.Views.behind c.catch_up.new.views 0) c.self.inside.passed) = record {
      others = λ w k ne. waits_same s (g.V.Views.workers c.self.inside.views) (g.V.Views.waiting c.self.inside.views) c.self.inside.passed s (g.V.Views.waiting c.catch_up.new.views) c.self.inside.passed w k (λ lw lk. c.catch_up.ensures.others w k ne);
      fewer = caught_fewer s (g.V.Views.workers c.self.inside.views) c.args.worker (g.V.Views.waiting c.self.inside.views) (g.V.Views.waiting c.catch_up.new.views) c.self.inside.passed c.self.inside.passed there none;
      passed = (omega arith);
      called = called;
    } in
    let A : ℕ → Type 0 = λ m. Applies c.args.worker old (board_of s m (g.V.Views.waiting c.catch_up.new.views) (g.V.Views.behind c.catch_up.new.views 0) c.self.inside.passed) in
    let B : BoardShown → Type 0 = λ z. Applies c.args.worker z (board_of s (g.V.Views.workers c.catch_up.new.views) (g.V.Views.waiting c.catch_up.new.views) (g.V.Views.behind c.catch_up.new.views 0) c.self.inside.passed) in
    subst B c.self.view_is (subst A (sym c.catch_up.ensures.workers) one)

pub returns-clause-prompt : goal.returns-clause-prompt
returns-clause-prompt g c =
    let s : Shown = c.self.inside.state in
    let same : c.worker_count-workers.result ≡ (g.V.Views.workers c.self.inside.views) = c.worker_count-workers.ensures ∙ sym c.self.invariant.viewers_are in
    up_to_date s (g.V.Views.workers c.catch_up.new.views) (g.V.Views.waiting c.catch_up.new.views) c.self.inside.passed c.args.worker (λ k lw lk. c.catch_up.ensures.none k (let e = c.catch_up.ensures.workers in omega (arith, lk, e, same)))

pub returns-then-worker-workers-clause-applies : goal.returns-then-worker-workers-clause-applies
returns-then-worker-workers-clause-applies g c = record { others = λ w k ne. refl; fewer = λ k. omega arith; passed = omega arith; called = λ k e called. called }

pub returns-then-worker-workers-clause-prompt : goal.returns-then-worker-workers-clause-prompt
returns-then-worker-workers-clause-prompt g c =
    let s : Shown = c.self.inside.state in
    let past : (g.V.Views.workers c.self.inside.views) ≤ c.args.worker = (let l = c.if-worker-workers.true in let e = c.worker_count-workers.ensures in let v = c.self.invariant.viewers_are in omega (arith, l, e, v)) in
    subst (λ (b : BoardShown). IsUpToDate b c.args.worker) c.self.view_is (λ k. no_worker s (g.V.Views.workers c.self.inside.views) (g.V.Views.waiting c.self.inside.views) c.self.inside.passed c.args.worker k past)

pub waits-requires : goal.waits-requires
waits-requires g c = let l = c.if-worker-workers.false in let e = c.worker_count-workers.ensures in let v = c.self.invariant.viewers_are in omega (arith, l, e, v)

pub returns-then-not-waits-clause-applies : goal.returns-then-not-waits-clause-applies
returns-then-not-waits-clause-applies g c = record { others = λ w k ne. refl; fewer = λ k. omega arith; passed = omega arith; called = λ k e called. called }

pub returns-then-not-waits-clause-prompt : goal.returns-then-not-waits-clause-prompt
returns-then-not-waits-clause-prompt g c =
    let s : Shown = c.self.inside.state in
    let none : (k : ℕ) → k < suc (g.V.Views.workers c.self.inside.views) → g.V.Views.waiting c.self.inside.views c.args.worker k ≡ [] = c.if-not-waits.ensures in
    subst (λ (b : BoardShown). IsUpToDate b c.args.worker) c.self.view_is (up_to_date s (g.V.Views.workers c.self.inside.views) (g.V.Views.waiting c.self.inside.views) c.self.inside.passed c.args.worker (λ k lw lk. none k lk))
