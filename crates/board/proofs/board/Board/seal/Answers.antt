use Rattle.std.proofs.Common.{suc, ◌≡◌, ◌+◌, ℕ, [], ◌∷◌, length, refl, sym, ap, ◌∙◌, subst, arith, length-set}
use Rattle.semantics.specs.Could.{at_vertex}
use Rattle.semantics.specs.Graph.{input_count}
use Rattle.semantics.specs.Time.{at_epoch}
use Rattle.graph.specs.Shown.{GraphValue, shown_graph}
use Rattle.machine.specs.Step.{Step}
use Rattle.views.specs.Waiting.{batch}
use Rattle.board.specs.Kept.{Goes, IsKept}
use Rattle.board.specs.Lateness.{first_of, BoardShown, Posts}
use Rattle.board.specs.Shown.{Shown, input_at}
use Rattle.board.proofs.Counted.{few_open, keeps_same, sealed_passed}
use Rattle.board.proofs.Ended.{open_tells, seal_goes}
use Rattle.board.proofs.Lateness.{board_of, counts_same, posted_prompt, posted_some, posts}
use Rattle.board.proofs.Posts.{may_seal, seal_posted}
use Rattle.board.proofs.Called.{keeps_called}
use Rattle.board.proofs.Seeing.{none_posted, seen_posted}
use Rattle.board.proofs.board.Board.seal.Goals as goal

pub post-requires-clause-sender : goal.post-requires-clause-sender
post-requires-clause-sender g c = let n = c.self.invariant.viewers_are in let e = c.worker_count-feeder.ensures in let w = c.reserve.ensures.workers in omega (arith, e, n, w)

pub post-requires-clause-room : goal.post-requires-clause-room
post-requires-clause-room g c = let r = c.in-Ok.ensures.room in omega (arith, r)

pub post-requires-clause-may : goal.post-requires-clause-may
post-requires-clause-may g c =
    let s : Shown = c.self.inside.state in
    let i : ℕ = c.args.input in
    let takes = open_tells s i (sym c.input_refusal.ensures ∙ c.in_default.is) in
    let n = c.self.invariant.viewers_are in
    let opens : c.input_place-opens.result ≡ at_vertex i (at_epoch ((input_at s i).open_epoch + 1)) = c.input_place-opens.ensures ∙ ap (λ m. at_vertex i (at_epoch (m + 1))) c.open_epoch-epoch.ensures in
    let ends : c.input_place-ends.result ≡ at_vertex i (at_epoch (input_at s i).open_epoch) = c.input_place-ends.ensures ∙ ap (λ m. at_vertex i (at_epoch m)) c.open_epoch-epoch.ensures in
    may_seal c.law_of_step.ensures.may (g.V.Views.graph c.self.inside.views) (g.V.Views.graph c.reserve.new.self) (g.V.Views.workers c.reserve.new.self) (g.V.Views.content c.self.inside.views) (g.V.Views.content c.reserve.new.self) s c.self.invariant.kept (c.reserve.ensures.workers ∙ n) c.reserve.ensures.graph c.reserve.ensures.content i takes c.worker_count-feeder.result c.worker_count-feeder.ensures c.input_place-opens.result c.input_place-ends.result opens ends

pub invariant_of-self-in-Err : goal.invariant_of-self-in-Err
invariant_of-self-in-Err g c =
    let s : Shown = c.self.inside.state in
    keeps_same (g.V.Views.graph c.self.inside.views) (g.V.Views.workers c.self.inside.views) (g.V.Views.content c.self.inside.views) (g.V.Views.waiting c.self.inside.views) (g.V.Views.room c.self.inside.views) g.V.Views.late c.self.inside.passed s c.self.invariant c.self.inside.state (g.V.Views.graph c.reserve.new.self) (g.V.Views.workers c.reserve.new.self) (g.V.Views.content c.reserve.new.self) (g.V.Views.waiting c.reserve.new.self) (g.V.Views.room c.reserve.new.self) c.reserve.ensures.graph c.reserve.ensures.workers c.reserve.ensures.content c.reserve.ensures.waiting c.reserve.ensures.kept refl

pub invariant_of-self : goal.invariant_of-self
invariant_of-self g c =
    let s : Shown = c.self.inside.state in
    let i : ℕ = c.args.input in
    let takes = open_tells s i (sym c.input_refusal.ensures ∙ c.in_default.is) in
    let n = c.self.invariant.viewers_are in
    let opens : c.input_place-opens.result ≡ at_vertex i (at_epoch ((input_at s i).open_epoch + 1)) = c.input_place-opens.ensures ∙ ap (λ m. at_vertex i (at_epoch (m + 1))) c.open_epoch-epoch.ensures in
    let ends : c.input_place-ends.result ≡ at_vertex i (at_epoch (input_at s i).open_epoch) = c.input_place-ends.ensures ∙ ap (λ m. at_vertex i (at_epoch m)) c.open_epoch-epoch.ensures in
    let kept : IsKept (g.V.Views.graph c.post.new.views) (g.V.Views.content c.post.new.views) c.seal.new.self = (let P : Shown → Type 0 = λ z. IsKept (g.V.Views.graph c.post.new.views) (g.V.Views.content c.post.new.views) z in
    subst P (sym c.seal.ensures) (seal_posted (g.V.Views.graph c.self.inside.views) (g.V.Views.graph c.post.new.views) (g.V.Views.content c.self.inside.views) (g.V.Views.content c.reserve.new.self) (g.V.Views.content c.post.new.views) s c.self.invariant.kept i takes (c.post.ensures.graph ∙ c.reserve.ensures.graph) c.reserve.ensures.content c.input_place-opens.result c.input_place-ends.result opens ends c.post.ensures.content)) in
    record {
      kept = kept;
      viewers_are = c.post.ensures.workers ∙ c.reserve.ensures.workers ∙ n ∙ sym (ap (λ (z : Shown). length z.sides) c.seal.ensures);
      closes = (
          let r = c.in-Ok.ensures.room in
          let p = c.post.ensures.room in
          let o = few_open c.seal.new.self.inputs in
          let m = ap (λ (z : Shown). length z.inputs) c.seal.ensures ∙ length-set s.inputs i (record (input_at s i) { open_epoch = (input_at s i).open_epoch + 1 }) in
          let k = c.self.invariant.kept.inputs in
          let count = c.input_count-closing.ensures.value ∙ ap (λ (x : GraphValue). input_count (shown_graph x)) c.graph.ensures in
          omega (arith, r, p, o, m, k, count)
          );
      prompt = λ late w k l m. posted_prompt g.V.Views.late (g.V.Views.waiting c.reserve.new.self) (g.V.Views.waiting c.self.inside.views) (g.V.Views.waiting c.post.new.views) (batch c.worker_count-feeder.result (c.input_place-opens.result ∷ []) (c.input_place-ends.result ∷ [])) (length (c.input_place-opens.result ∷ []) + length (c.input_place-ends.result ∷ [])) (g.V.Views.workers c.self.inside.views) c.reserve.ensures.waiting (λ x y z. c.post.ensures.waiting x y (let e = c.reserve.ensures.workers in omega (arith, z, e))) c.self.invariant.prompt late w k (let e = c.post.ensures.workers in let f = c.reserve.ensures.workers in omega (arith, l, e, f)) (let e = c.post.ensures.workers in let f = c.reserve.ensures.workers in omega (arith, m, e, f));
      passed_are = (sealed_passed (g.V.Views.graph c.self.inside.views) (g.V.Views.workers c.self.inside.views) (g.V.Views.content c.self.inside.views) (g.V.Views.waiting c.self.inside.views) (g.V.Views.room c.self.inside.views) g.V.Views.late c.self.inside.passed s c.self.invariant c.seal.new.self i takes c.seal.ensures);
      passed_seen = (seen_posted (g.V.Views.graph c.self.inside.views) (g.V.Views.graph c.reserve.new.self) (g.V.Views.workers c.self.inside.views) (g.V.Views.workers c.reserve.new.self) (g.V.Views.content c.self.inside.views) (g.V.Views.content c.reserve.new.self) (g.V.Views.content c.post.new.views) (g.V.Views.waiting c.self.inside.views) (g.V.Views.waiting c.reserve.new.self) (g.V.Views.waiting c.post.new.views) s c.self.invariant.kept n c.reserve.ensures.graph c.reserve.ensures.workers c.reserve.ensures.content c.reserve.ensures.waiting c.post.ensures.stays
          (g.V.Views.graph c.post.new.views) (g.V.Views.workers c.post.new.views) c.seal.new.self c.self.inside.passed (c.post.ensures.graph ∙ c.reserve.ensures.graph) (c.post.ensures.workers ∙ c.reserve.ensures.workers) (ap (λ (z : Shown). z.graph) c.seal.ensures) c.self.invariant.passed_seen);
    }

pub returns-in-Ok-clause-step : goal.returns-in-Ok-clause-step
returns-in-Ok-clause-step g c =
    let s : Shown = c.self.inside.state in
    let i : ℕ = c.args.input in
    let takes = open_tells s i (sym c.input_refusal.ensures ∙ c.in_default.is) in
    let n = c.self.invariant.viewers_are in
    let P : BoardShown → Type 0 = λ z. Goes z.shown (Step.seal i) c.seal.new.self in
    let Q : Shown → Type 0 = λ z. Goes s (Step.seal i) z in
    subst P c.self.view_is (subst Q (sym c.seal.ensures) (seal_goes (g.V.Views.graph c.self.inside.views) (g.V.Views.content c.self.inside.views) s c.self.invariant.kept i takes))

pub returns-in-Ok-clause-posts : goal.returns-in-Ok-clause-posts
returns-in-Ok-clause-posts g c =
    let s : Shown = c.self.inside.state in
    let i : ℕ = c.args.input in
    let takes = open_tells s i (sym c.input_refusal.ensures ∙ c.in_default.is) in
    let n = c.self.invariant.viewers_are in
    let opens : c.input_place-opens.result ≡ at_vertex i (at_epoch ((input_at s i).open_epoch + 1)) = c.input_place-opens.ensures ∙ ap (λ m. at_vertex i (at_epoch (m + 1))) c.open_epoch-epoch.ensures in
    let ends : c.input_place-ends.result ≡ at_vertex i (at_epoch (input_at s i).open_epoch) = c.input_place-ends.ensures ∙ ap (λ m. at_vertex i (at_epoch m)) c.open_epoch-epoch.ensures in
    let kept : IsKept (g.V.Views.graph c.post.new.views) (g.V.Views.content c.post.new.views) c.seal.new.self = (let P : Shown → Type 0 = λ z. IsKept (g.V.Views.graph c.post.new.views) (g.V.Views.content c.post.new.views) z in
    subst P (sym c.seal.ensures) (seal_posted (g.V.Views.graph c.self.inside.views) (g.V.Views.graph c.post.new.views) (g.V.Views.content c.self.inside.views) (g.V.Views.content c.reserve.new.self) (g.V.Views.content c.post.new.views) s c.self.invariant.kept i takes (c.post.ensures.graph ∙ c.reserve.ensures.graph) c.reserve.ensures.content c.input_place-opens.result c.input_place-ends.result opens ends c.post.ensures.content)) in
    let kept_then : IsKept (g.V.Views.graph c.post.new.views) (g.V.Views.content c.post.new.views) c.seal.new.self = kept in
    let called = keeps_called (g.V.Views.graph c.self.inside.views) (g.V.Views.graph c.post.new.views) (g.V.Views.workers c.self.inside.views) (g.V.Views.content c.self.inside.views) (g.V.Views.content c.post.new.views) (g.V.Views.waiting c.self.inside.views) (g.V.Views.waiting c.post.new.views) (g.V.Views.behind c.self.inside.views 0) (g.V.Views.behind c.post.new.views 0) s c.seal.new.self c.self.inside.passed c.self.inside.passed (g.met.V.Views.as_lists c.self.inside.views 0) (g.met.V.Views.as_lists c.post.new.views 0) c.self.invariant.kept kept_then
    n (n ∙ sym (ap (λ (z : Shown). length z.sides) c.seal.ensures)) (c.post.ensures.graph ∙ c.reserve.ensures.graph)
    (none_posted (g.V.Views.graph c.self.inside.views) (g.V.Views.graph c.reserve.new.self) (g.V.Views.workers c.self.inside.views) (g.V.Views.workers c.reserve.new.self) (g.V.Views.content c.self.inside.views) (g.V.Views.content c.reserve.new.self) (g.V.Views.content c.post.new.views) (g.V.Views.waiting c.self.inside.views) (g.V.Views.waiting c.reserve.new.self) (g.V.Views.waiting c.post.new.views) s c.self.invariant.kept n c.reserve.ensures.graph c.reserve.ensures.workers c.reserve.ensures.content c.reserve.ensures.waiting c.post.ensures.stays) in
    let after = posted_some g.V.Views.late (g.V.Views.waiting c.reserve.new.self) (g.V.Views.waiting c.self.inside.views) (g.V.Views.waiting c.post.new.views) (batch c.worker_count-feeder.result (c.input_place-opens.result ∷ []) (c.input_place-ends.result ∷ [])) (length (c.input_place-opens.result ∷ []) + length (c.input_place-ends.result ∷ [])) (g.V.Views.workers c.self.inside.views) (omega arith) c.reserve.ensures.waiting (λ w k l. c.post.ensures.waiting w k (let e = c.reserve.ensures.workers in omega (arith, l, e))) in
    let one : Posts g.V.Views.late c.worker_count-feeder.result (board_of s (g.V.Views.workers c.self.inside.views) (g.V.Views.waiting c.self.inside.views) (g.V.Views.behind c.self.inside.views 0) c.self.inside.passed) (board_of c.seal.new.self (g.V.Views.workers c.self.inside.views) (g.V.Views.waiting c.post.new.views) (g.V.Views.behind c.post.new.views 0) c.self.inside.passed) =
    posts s (g.V.Views.workers c.self.inside.views) (g.V.Views.waiting c.self.inside.views) c.self.inside.passed c.seal.new.self (g.V.Views.waiting c.post.new.views) c.self.inside.passed g.V.Views.late c.worker_count-feeder.result (c.input_place-opens.result ∷ []) (c.input_place-ends.result ∷ []) (g.V.Views.behind c.self.inside.views 0) (g.V.Views.behind c.post.new.views 0) (sym n) after called in
    let A : ℕ → Type 0 = λ m. Posts g.V.Views.late m (board_of s (g.V.Views.workers c.self.inside.views) (g.V.Views.waiting c.self.inside.views) (g.V.Views.behind c.self.inside.views 0) c.self.inside.passed) (board_of c.seal.new.self (g.V.Views.workers c.post.new.views) (g.V.Views.waiting c.post.new.views) (g.V.Views.behind c.post.new.views 0) c.self.inside.passed) in
    let B : ℕ → Type 0 = λ m. Posts g.V.Views.late c.worker_count-feeder.result (board_of s (g.V.Views.workers c.self.inside.views) (g.V.Views.waiting c.self.inside.views) (g.V.Views.behind c.self.inside.views 0) c.self.inside.passed) (board_of c.seal.new.self m (g.V.Views.waiting c.post.new.views) (g.V.Views.behind c.post.new.views 0) c.self.inside.passed) in
    let D : BoardShown → Type 0 = λ z. Posts g.V.Views.late (length z.shown.sides) z (board_of c.seal.new.self (g.V.Views.workers c.post.new.views) (g.V.Views.waiting c.post.new.views) (g.V.Views.behind c.post.new.views 0) c.self.inside.passed) in
    subst D c.self.view_is (subst A c.worker_count-feeder.ensures (subst B (sym (c.post.ensures.workers ∙ c.reserve.ensures.workers)) one))

pub returns-in-Err-clause-refused : goal.returns-in-Err-clause-refused
returns-in-Err-clause-refused g c =
    (λ j. record { shown = c.self.inside.state; waits = counts_same (g.V.Views.workers c.self.inside.views) (g.V.Views.workers c.reserve.new.self) (g.V.Views.waiting c.self.inside.views) (g.V.Views.waiting c.reserve.new.self) c.reserve.ensures.workers c.reserve.ensures.waiting j; behind = first_of (suc (c.reserve.ensures.workers j)) (λ k. c.reserve.ensures.behind 0 k j); passed = c.self.inside.passed }) ∙ c.self.view_is
