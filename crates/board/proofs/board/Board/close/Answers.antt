use Rattle.std.proofs.Common.{◌≡◌, ◌+◌, ℕ, [], ◌∷◌, length, refl, sym, ap, ◌∙◌, subst, arith}
use Rattle.semantics.specs.Could.{at_vertex}
use Rattle.semantics.specs.Time.{at_epoch}
use Rattle.machine.specs.Step.{Step}
use Rattle.views.specs.Waiting.{batch}
use Rattle.board.specs.Kept.{Goes, IsKept, open_count}
use Rattle.board.specs.Lateness.{BoardShown, Posts}
use Rattle.board.specs.Shown.{Shown, input_at}
use Rattle.board.proofs.Counted.{closed_passed, one_closed}
use Rattle.board.proofs.Ended.{close_goes, open_tells}
use Rattle.board.proofs.Lateness.{board_of, posted_prompt, posted_some, posts}
use Rattle.board.proofs.Posts.{close_posted, may_close}
use Rattle.board.proofs.Called.{keeps_called}
use Rattle.board.proofs.Seeing.{none_posted, seen_posted}
use Rattle.board.proofs.board.Board.close.Goals as goal

pub post-requires-clause-sender : goal.post-requires-clause-sender
post-requires-clause-sender g c = let n = c.self.invariant.viewers_are in let e = c.worker_count-feeder.ensures in omega (arith, e, n)

pub post-requires-clause-room : goal.post-requires-clause-room
post-requires-clause-room g c =
    let s : Shown = c.self.inside.state in
    let i : ℕ = c.args.input in
    let takes = open_tells s i (sym c.input_refusal.ensures ∙ c.in_default.is) in
    let n = c.self.invariant.viewers_are in
    let o = c.self.invariant.closes in
    let l = one_closed s.inputs i takes.1 takes.2 in
    omega (arith, o, l)

pub post-requires-clause-may : goal.post-requires-clause-may
post-requires-clause-may g c =
    let s : Shown = c.self.inside.state in
    let i : ℕ = c.args.input in
    let takes = open_tells s i (sym c.input_refusal.ensures ∙ c.in_default.is) in
    let n = c.self.invariant.viewers_are in
    let ends : c.input_place-ends.result ≡ at_vertex i (at_epoch (input_at s i).open_epoch) = c.input_place-ends.ensures ∙ ap (λ m. at_vertex i (at_epoch m)) c.open_epoch-epoch.ensures in
    may_close c.law_of_step.ensures.may (g.V.Views.graph c.self.inside.views) (g.V.Views.graph c.self.inside.views) (g.V.Views.workers c.self.inside.views) (g.V.Views.content c.self.inside.views) (g.V.Views.content c.self.inside.views) s c.self.invariant.kept n refl (λ q. refl) i takes c.worker_count-feeder.result c.worker_count-feeder.ensures c.input_place-ends.result ends

pub invariant_of-self : goal.invariant_of-self
invariant_of-self g c =
    let s : Shown = c.self.inside.state in
    let i : ℕ = c.args.input in
    let takes = open_tells s i (sym c.input_refusal.ensures ∙ c.in_default.is) in
    let n = c.self.invariant.viewers_are in
    let ends : c.input_place-ends.result ≡ at_vertex i (at_epoch (input_at s i).open_epoch) = c.input_place-ends.ensures ∙ ap (λ m. at_vertex i (at_epoch m)) c.open_epoch-epoch.ensures in
    let kept : IsKept (g.V.Views.graph c.post.new.views) (g.V.Views.content c.post.new.views) c.close.new.self = (let P : Shown → Type 0 = λ z. IsKept (g.V.Views.graph c.post.new.views) (g.V.Views.content c.post.new.views) z in
    subst P (sym c.close.ensures) (close_posted (g.V.Views.graph c.self.inside.views) (g.V.Views.graph c.post.new.views) (g.V.Views.content c.self.inside.views) (g.V.Views.content c.post.new.views) s c.self.invariant.kept i takes c.post.ensures.graph c.input_place-ends.result ends c.post.ensures.content)) in
    record {
      kept = kept;
      viewers_are = c.post.ensures.workers ∙ n ∙ sym (ap (λ (z : Shown). length z.sides) c.close.ensures);
      closes = (
          let r = c.self.invariant.closes in
          let p = c.post.ensures.room in
          let o = one_closed s.inputs i takes.1 takes.2 in
          let e = ap (λ (z : Shown). open_count z.inputs) c.close.ensures in
          omega (arith, r, p, o, e)
          );
      prompt = λ late w k l m. posted_prompt g.V.Views.late (g.V.Views.waiting c.self.inside.views) (g.V.Views.waiting c.self.inside.views) (g.V.Views.waiting c.post.new.views) (batch c.worker_count-feeder.result [] (c.input_place-ends.result ∷ [])) (0 + length (c.input_place-ends.result ∷ [])) (g.V.Views.workers c.self.inside.views) (λ w k. refl) c.post.ensures.waiting c.self.invariant.prompt late w k (let e = c.post.ensures.workers in omega (arith, l, e)) (let e = c.post.ensures.workers in omega (arith, m, e));
      passed_are = (closed_passed (g.V.Views.graph c.self.inside.views) (g.V.Views.workers c.self.inside.views) (g.V.Views.content c.self.inside.views) (g.V.Views.waiting c.self.inside.views) (g.V.Views.room c.self.inside.views) g.V.Views.late c.self.inside.passed s c.self.invariant c.close.new.self i takes c.close.ensures);
      passed_seen = (seen_posted (g.V.Views.graph c.self.inside.views) (g.V.Views.graph c.self.inside.views) (g.V.Views.workers c.self.inside.views) (g.V.Views.workers c.self.inside.views) (g.V.Views.content c.self.inside.views) (g.V.Views.content c.self.inside.views) (g.V.Views.content c.post.new.views) (g.V.Views.waiting c.self.inside.views) (g.V.Views.waiting c.self.inside.views) (g.V.Views.waiting c.post.new.views) s c.self.invariant.kept n refl refl (λ q. refl) (λ w k. refl) c.post.ensures.stays
          (g.V.Views.graph c.post.new.views) (g.V.Views.workers c.post.new.views) c.close.new.self c.self.inside.passed c.post.ensures.graph c.post.ensures.workers (ap (λ (z : Shown). z.graph) c.close.ensures) c.self.invariant.passed_seen);
    }

pub returns-clause-step : goal.returns-clause-step
returns-clause-step g c =
    let s : Shown = c.self.inside.state in
    let i : ℕ = c.args.input in
    let takes = open_tells s i (sym c.input_refusal.ensures ∙ c.in_default.is) in
    let n = c.self.invariant.viewers_are in
    let P : BoardShown → Type 0 = λ z. Goes z.shown (Step.close i) c.close.new.self in
    let Q : Shown → Type 0 = λ z. Goes s (Step.close i) z in
    subst P c.self.view_is (subst Q (sym c.close.ensures) (close_goes (g.V.Views.graph c.self.inside.views) (g.V.Views.content c.self.inside.views) s c.self.invariant.kept i takes))

pub returns-clause-posts : goal.returns-clause-posts
returns-clause-posts g c =
    let s : Shown = c.self.inside.state in
    let i : ℕ = c.args.input in
    let takes = open_tells s i (sym c.input_refusal.ensures ∙ c.in_default.is) in
    let n = c.self.invariant.viewers_are in
    let ends : c.input_place-ends.result ≡ at_vertex i (at_epoch (input_at s i).open_epoch) = c.input_place-ends.ensures ∙ ap (λ m. at_vertex i (at_epoch m)) c.open_epoch-epoch.ensures in
    let kept : IsKept (g.V.Views.graph c.post.new.views) (g.V.Views.content c.post.new.views) c.close.new.self = (let P : Shown → Type 0 = λ z. IsKept (g.V.Views.graph c.post.new.views) (g.V.Views.content c.post.new.views) z in
    subst P (sym c.close.ensures) (close_posted (g.V.Views.graph c.self.inside.views) (g.V.Views.graph c.post.new.views) (g.V.Views.content c.self.inside.views) (g.V.Views.content c.post.new.views) s c.self.invariant.kept i takes c.post.ensures.graph c.input_place-ends.result ends c.post.ensures.content)) in
    let kept_then : IsKept (g.V.Views.graph c.post.new.views) (g.V.Views.content c.post.new.views) c.close.new.self = kept in
    let called = keeps_called (g.V.Views.graph c.self.inside.views) (g.V.Views.graph c.post.new.views) (g.V.Views.workers c.self.inside.views) (g.V.Views.content c.self.inside.views) (g.V.Views.content c.post.new.views) (g.V.Views.waiting c.self.inside.views) (g.V.Views.waiting c.post.new.views) (g.V.Views.behind c.self.inside.views 0) (g.V.Views.behind c.post.new.views 0) s c.close.new.self c.self.inside.passed c.self.inside.passed (g.met.V.Views.as_lists c.self.inside.views 0) (g.met.V.Views.as_lists c.post.new.views 0) c.self.invariant.kept kept_then
    n (n ∙ sym (ap (λ (z : Shown). length z.sides) c.close.ensures)) c.post.ensures.graph
    (none_posted (g.V.Views.graph c.self.inside.views) (g.V.Views.graph c.self.inside.views) (g.V.Views.workers c.self.inside.views) (g.V.Views.workers c.self.inside.views) (g.V.Views.content c.self.inside.views) (g.V.Views.content c.self.inside.views) (g.V.Views.content c.post.new.views) (g.V.Views.waiting c.self.inside.views) (g.V.Views.waiting c.self.inside.views) (g.V.Views.waiting c.post.new.views) s c.self.invariant.kept n refl refl (λ q. refl) (λ w k. refl) c.post.ensures.stays) in
    let after = posted_some g.V.Views.late (g.V.Views.waiting c.self.inside.views) (g.V.Views.waiting c.self.inside.views) (g.V.Views.waiting c.post.new.views) (batch c.worker_count-feeder.result [] (c.input_place-ends.result ∷ [])) (0 + length (c.input_place-ends.result ∷ [])) (g.V.Views.workers c.self.inside.views) (omega arith) (λ w k. refl) c.post.ensures.waiting in
    let one : Posts g.V.Views.late c.worker_count-feeder.result (board_of s (g.V.Views.workers c.self.inside.views) (g.V.Views.waiting c.self.inside.views) (g.V.Views.behind c.self.inside.views 0) c.self.inside.passed) (board_of c.close.new.self (g.V.Views.workers c.self.inside.views) (g.V.Views.waiting c.post.new.views) (g.V.Views.behind c.post.new.views 0) c.self.inside.passed) =
    posts s (g.V.Views.workers c.self.inside.views) (g.V.Views.waiting c.self.inside.views) c.self.inside.passed c.close.new.self (g.V.Views.waiting c.post.new.views) c.self.inside.passed g.V.Views.late c.worker_count-feeder.result [] (c.input_place-ends.result ∷ []) (g.V.Views.behind c.self.inside.views 0) (g.V.Views.behind c.post.new.views 0) (sym n) after called in
    let A : ℕ → Type 0 = λ m. Posts g.V.Views.late m (board_of s (g.V.Views.workers c.self.inside.views) (g.V.Views.waiting c.self.inside.views) (g.V.Views.behind c.self.inside.views 0) c.self.inside.passed) (board_of c.close.new.self (g.V.Views.workers c.post.new.views) (g.V.Views.waiting c.post.new.views) (g.V.Views.behind c.post.new.views 0) c.self.inside.passed) in
    let B : ℕ → Type 0 = λ m. Posts g.V.Views.late c.worker_count-feeder.result (board_of s (g.V.Views.workers c.self.inside.views) (g.V.Views.waiting c.self.inside.views) (g.V.Views.behind c.self.inside.views 0) c.self.inside.passed) (board_of c.close.new.self m (g.V.Views.waiting c.post.new.views) (g.V.Views.behind c.post.new.views 0) c.self.inside.passed) in
    let D : BoardShown → Type 0 = λ z. Posts g.V.Views.late (length z.shown.sides) z (board_of c.close.new.self (g.V.Views.workers c.post.new.views) (g.V.Views.waiting c.post.new.views) (g.V.Views.behind c.post.new.views 0) c.self.inside.passed) in
    subst D c.self.view_is (subst A c.worker_count-feeder.ensures (subst B (sym c.post.ensures.workers) one))
