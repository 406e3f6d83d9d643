use Rattle.std.proofs.Common.{suc, ◌≡◌, ◌<◌, ◌+◌, ℕ, false, [], ◌∷◌, length, refl, sym, ap, ◌∙◌, subst, arith}
use Rattle.semantics.specs.Graph.{input_count}
use Rattle.graph.specs.Shown.{GraphValue, shown_graph}
use Rattle.tokens.specs.declared.rule.Place.TheVariants.{Home}
use Rattle.views.specs.Waiting.{batch}
use Rattle.board.specs.Answers.{Merges}
use Rattle.board.specs.Claims.{MergesMail}
use Rattle.board.specs.Kept.{IsKept}
use Rattle.board.specs.Lateness.{first_of, BoardShown, Posts}
use Rattle.board.specs.Shown.{Shown, side_at, tables}
use Rattle.board.proofs.Counted.{few_open, keeps_same, merged_passed}
use Rattle.board.proofs.Lateness.{board_of, counts_same, posted_prompt, posted_some, posts}
use Rattle.board.proofs.Later.{later}
use Rattle.board.proofs.Merged.{granted, merge_goes, merge_tables, merges}
use Rattle.board.proofs.Posts.{may_merge, merge_posted}
use Rattle.board.proofs.Called.{keeps_called}
use Rattle.board.proofs.Seeing.{none_posted, seen_posted}
use Rattle.board.proofs.board.Board.merge.Goals as goal

pub post-requires-clause-sender : goal.post-requires-clause-sender
post-requires-clause-sender g c = let n = c.self.invariant.viewers_are in let w = c.reserve.ensures.workers in let l = c.if-not-has_worker.ensures in omega (arith, l, n, w)

pub post-requires-clause-room : goal.post-requires-clause-room
post-requires-clause-room g c = let r = granted c.reserve.result (sym c.is_err.ensures.value ∙ c.if-is_err.false) c.reserve.ensures.room in omega (arith, r)

pub post-requires-clause-may : goal.post-requires-clause-may
post-requires-clause-may g c =
    let s : Shown = c.self.inside.state in
    let k : ℕ = c.args.worker in
    let there : k < length s.sides = c.if-not-has_worker.ensures in
    let free : (side_at s k).place ≡ Home = c.if-not-is_free.ensures in
    let runs : s.stopped ≡ false = sym c.is_stopped.ensures ∙ c.if-is_stopped.false in
    let n = c.self.invariant.viewers_are in
    let h : MergesMail s c.merge.new.self k c.args.place c.in-Some.ends = c.in-Some.ensures.merges in
    may_merge c.law_of_step.ensures.may (g.V.Views.graph c.self.inside.views) (g.V.Views.graph c.reserve.new.self) (g.V.Views.workers c.reserve.new.self) (g.V.Views.content c.self.inside.views) (g.V.Views.content c.reserve.new.self) s c.self.invariant.kept (c.reserve.ensures.workers ∙ n) c.reserve.ensures.graph c.reserve.ensures.content k there free runs c.merge.new.self c.args.place c.in-Some.ends h

pub invariant_of-self-in-Some : goal.invariant_of-self-in-Some
invariant_of-self-in-Some g c =
    let s : Shown = c.self.inside.state in
    let k : ℕ = c.args.worker in
    let there : k < length s.sides = c.if-not-has_worker.ensures in
    let free : (side_at s k).place ≡ Home = c.if-not-is_free.ensures in
    let runs : s.stopped ≡ false = sym c.is_stopped.ensures ∙ c.if-is_stopped.false in
    let n = c.self.invariant.viewers_are in
    let h : MergesMail s c.merge.new.self k c.args.place c.in-Some.ends = c.in-Some.ensures.merges in
    record {
      kept = merge_posted (g.V.Views.graph c.self.inside.views) (g.V.Views.graph c.post.new.views) (g.V.Views.content c.self.inside.views) (g.V.Views.content c.reserve.new.self) (g.V.Views.content c.post.new.views) s c.self.invariant.kept k there free runs c.merge.new.self c.args.place c.in-Some.ends h (c.post.ensures.graph ∙ c.reserve.ensures.graph) c.reserve.ensures.content c.post.ensures.content;
      viewers_are = c.post.ensures.workers ∙ c.reserve.ensures.workers ∙ n ∙ sym (merge_goes s k there free runs c.merge.new.self c.args.place c.in-Some.ends h (later (g.V.Views.graph c.self.inside.views) (g.V.Views.content c.self.inside.views) s c.self.invariant.kept)).workers;
      closes = (
          let r = granted c.reserve.result (sym c.is_err.ensures.value ∙ c.if-is_err.false) c.reserve.ensures.room in
          let p = c.post.ensures.room in
          let o = few_open c.merge.new.self.inputs in
          let m = ap (λ (z : Shown). length z.inputs) h.state in
          let i = c.self.invariant.kept.inputs in
          let count = c.input_count-closing.ensures.value ∙ ap (λ (x : GraphValue). input_count (shown_graph x)) c.graph.ensures in
          omega (arith, r, p, o, m, i, count)
          );
      prompt = λ late w j l m. posted_prompt g.V.Views.late (g.V.Views.waiting c.reserve.new.self) (g.V.Views.waiting c.self.inside.views) (g.V.Views.waiting c.post.new.views) (batch k [] (c.in-Some.ends ∷ [])) (0 + length (c.in-Some.ends ∷ [])) (g.V.Views.workers c.self.inside.views) c.reserve.ensures.waiting (λ x y z. c.post.ensures.waiting x y (let e = c.reserve.ensures.workers in omega (arith, z, e))) c.self.invariant.prompt late w j (let e = c.post.ensures.workers in let f = c.reserve.ensures.workers in omega (arith, l, e, f)) (let e = c.post.ensures.workers in let f = c.reserve.ensures.workers in omega (arith, m, e, f));
      passed_are = (merged_passed (g.V.Views.graph c.self.inside.views) (g.V.Views.workers c.self.inside.views) (g.V.Views.content c.self.inside.views) (g.V.Views.waiting c.self.inside.views) (g.V.Views.room c.self.inside.views) g.V.Views.late c.self.inside.passed s c.self.invariant c.merge.new.self k there free runs c.args.place c.in-Some.ends h);
      passed_seen = (seen_posted (g.V.Views.graph c.self.inside.views) (g.V.Views.graph c.reserve.new.self) (g.V.Views.workers c.self.inside.views) (g.V.Views.workers c.reserve.new.self) (g.V.Views.content c.self.inside.views) (g.V.Views.content c.reserve.new.self) (g.V.Views.content c.post.new.views) (g.V.Views.waiting c.self.inside.views) (g.V.Views.waiting c.reserve.new.self) (g.V.Views.waiting c.post.new.views) s c.self.invariant.kept n c.reserve.ensures.graph c.reserve.ensures.workers c.reserve.ensures.content c.reserve.ensures.waiting c.post.ensures.stays
          (g.V.Views.graph c.post.new.views) (g.V.Views.workers c.post.new.views) c.merge.new.self c.self.inside.passed (c.post.ensures.graph ∙ c.reserve.ensures.graph) (c.post.ensures.workers ∙ c.reserve.ensures.workers) (ap (λ (z : Shown). z.graph) h.state) c.self.invariant.passed_seen);
    }

pub invariant_of-self : goal.invariant_of-self
invariant_of-self g c =
    let s : Shown = c.self.inside.state in
    keeps_same (g.V.Views.graph c.self.inside.views) (g.V.Views.workers c.self.inside.views) (g.V.Views.content c.self.inside.views) (g.V.Views.waiting c.self.inside.views) (g.V.Views.room c.self.inside.views) g.V.Views.late c.self.inside.passed s c.self.invariant s (g.V.Views.graph c.reserve.new.self) (g.V.Views.workers c.reserve.new.self) (g.V.Views.content c.reserve.new.self) (g.V.Views.waiting c.reserve.new.self) (g.V.Views.room c.reserve.new.self) c.reserve.ensures.graph c.reserve.ensures.workers c.reserve.ensures.content c.reserve.ensures.waiting c.reserve.ensures.kept refl

pub invariant_of-self-in-None : goal.invariant_of-self-in-None
invariant_of-self-in-None g c =
    let s : Shown = c.self.inside.state in
    keeps_same (g.V.Views.graph c.self.inside.views) (g.V.Views.workers c.self.inside.views) (g.V.Views.content c.self.inside.views) (g.V.Views.waiting c.self.inside.views) (g.V.Views.room c.self.inside.views) g.V.Views.late c.self.inside.passed s c.self.invariant c.merge.new.self (g.V.Views.graph c.reserve.new.self) (g.V.Views.workers c.reserve.new.self) (g.V.Views.content c.reserve.new.self) (g.V.Views.waiting c.reserve.new.self) (g.V.Views.room c.reserve.new.self) c.reserve.ensures.graph c.reserve.ensures.workers c.reserve.ensures.content c.reserve.ensures.waiting c.reserve.ensures.kept c.in-None.ensures.same

pub returns-in-Some-clause-merges : goal.returns-in-Some-clause-merges
returns-in-Some-clause-merges g c e =
    let s : Shown = c.self.inside.state in
    let k : ℕ = c.args.worker in
    let there : k < length s.sides = c.if-not-has_worker.ensures in
    let free : (side_at s k).place ≡ Home = c.if-not-is_free.ensures in
    let runs : s.stopped ≡ false = sym c.is_stopped.ensures ∙ c.if-is_stopped.false in
    let n = c.self.invariant.viewers_are in
    let h : MergesMail s c.merge.new.self k c.args.place c.in-Some.ends = c.in-Some.ensures.merges in
    subst (λ (z : BoardShown). Merges z.shown k c.args.place c.merge.new.self) c.self.view_is (merges s k there free runs c.merge.new.self c.args.place c.in-Some.ends h (later (g.V.Views.graph c.self.inside.views) (g.V.Views.content c.self.inside.views) s c.self.invariant.kept))

pub returns-in-Some-clause-tables : goal.returns-in-Some-clause-tables
returns-in-Some-clause-tables g c =
    let s : Shown = c.self.inside.state in
    let k : ℕ = c.args.worker in
    let there : k < length s.sides = c.if-not-has_worker.ensures in
    let free : (side_at s k).place ≡ Home = c.if-not-is_free.ensures in
    let runs : s.stopped ≡ false = sym c.is_stopped.ensures ∙ c.if-is_stopped.false in
    let n = c.self.invariant.viewers_are in
    let h : MergesMail s c.merge.new.self k c.args.place c.in-Some.ends = c.in-Some.ensures.merges in
    merge_tables s k there free runs c.merge.new.self c.args.place c.in-Some.ends h ∙ ap tables (ap (λ (b : BoardShown). b.shown) c.self.view_is)

pub returns-in-Some-clause-posts : goal.returns-in-Some-clause-posts
returns-in-Some-clause-posts g c e =
    let s : Shown = c.self.inside.state in
    let k : ℕ = c.args.worker in
    let there : k < length s.sides = c.if-not-has_worker.ensures in
    let free : (side_at s k).place ≡ Home = c.if-not-is_free.ensures in
    let runs : s.stopped ≡ false = sym c.is_stopped.ensures ∙ c.if-is_stopped.false in
    let n = c.self.invariant.viewers_are in
    let h : MergesMail s c.merge.new.self k c.args.place c.in-Some.ends = c.in-Some.ensures.merges in
    let kept_then : IsKept (g.V.Views.graph c.post.new.views) (g.V.Views.content c.post.new.views) c.merge.new.self = merge_posted (g.V.Views.graph c.self.inside.views) (g.V.Views.graph c.post.new.views) (g.V.Views.content c.self.inside.views) (g.V.Views.content c.reserve.new.self) (g.V.Views.content c.post.new.views) s c.self.invariant.kept k there free runs c.merge.new.self c.args.place c.in-Some.ends h (c.post.ensures.graph ∙ c.reserve.ensures.graph) c.reserve.ensures.content c.post.ensures.content in
    let called = keeps_called (g.V.Views.graph c.self.inside.views) (g.V.Views.graph c.post.new.views) (g.V.Views.workers c.self.inside.views) (g.V.Views.content c.self.inside.views) (g.V.Views.content c.post.new.views) (g.V.Views.waiting c.self.inside.views) (g.V.Views.waiting c.post.new.views) (g.V.Views.behind c.self.inside.views 0) (g.V.Views.behind c.post.new.views 0) s c.merge.new.self c.self.inside.passed c.self.inside.passed (g.met.V.Views.as_lists c.self.inside.views 0) (g.met.V.Views.as_lists c.post.new.views 0) c.self.invariant.kept kept_then
    n (n ∙ sym (merge_goes s k there free runs c.merge.new.self c.args.place c.in-Some.ends h (later (g.V.Views.graph c.self.inside.views) (g.V.Views.content c.self.inside.views) s c.self.invariant.kept)).workers) (c.post.ensures.graph ∙ c.reserve.ensures.graph)
    (none_posted (g.V.Views.graph c.self.inside.views) (g.V.Views.graph c.reserve.new.self) (g.V.Views.workers c.self.inside.views) (g.V.Views.workers c.reserve.new.self) (g.V.Views.content c.self.inside.views) (g.V.Views.content c.reserve.new.self) (g.V.Views.content c.post.new.views) (g.V.Views.waiting c.self.inside.views) (g.V.Views.waiting c.reserve.new.self) (g.V.Views.waiting c.post.new.views) s c.self.invariant.kept n c.reserve.ensures.graph c.reserve.ensures.workers c.reserve.ensures.content c.reserve.ensures.waiting c.post.ensures.stays) in
    let after = posted_some g.V.Views.late (g.V.Views.waiting c.reserve.new.self) (g.V.Views.waiting c.self.inside.views) (g.V.Views.waiting c.post.new.views) (batch k [] (c.in-Some.ends ∷ [])) (0 + length (c.in-Some.ends ∷ [])) (g.V.Views.workers c.self.inside.views) (omega arith) c.reserve.ensures.waiting (λ w j l. c.post.ensures.waiting w j (let e = c.reserve.ensures.workers in omega (arith, l, e))) in
    let one : Posts g.V.Views.late k (board_of s (g.V.Views.workers c.self.inside.views) (g.V.Views.waiting c.self.inside.views) (g.V.Views.behind c.self.inside.views 0) c.self.inside.passed) (board_of c.merge.new.self (g.V.Views.workers c.self.inside.views) (g.V.Views.waiting c.post.new.views) (g.V.Views.behind c.post.new.views 0) c.self.inside.passed) =
    posts s (g.V.Views.workers c.self.inside.views) (g.V.Views.waiting c.self.inside.views) c.self.inside.passed c.merge.new.self (g.V.Views.waiting c.post.new.views) c.self.inside.passed g.V.Views.late k [] (c.in-Some.ends ∷ []) (g.V.Views.behind c.self.inside.views 0) (g.V.Views.behind c.post.new.views 0) (sym n) after called in
    let B : ℕ → Type 0 = λ m. Posts g.V.Views.late k (board_of s (g.V.Views.workers c.self.inside.views) (g.V.Views.waiting c.self.inside.views) (g.V.Views.behind c.self.inside.views 0) c.self.inside.passed) (board_of c.merge.new.self m (g.V.Views.waiting c.post.new.views) (g.V.Views.behind c.post.new.views 0) c.self.inside.passed) in
    let D : BoardShown → Type 0 = λ z. Posts g.V.Views.late k z (board_of c.merge.new.self (g.V.Views.workers c.post.new.views) (g.V.Views.waiting c.post.new.views) (g.V.Views.behind c.post.new.views 0) c.self.inside.passed) in
    subst D c.self.view_is (subst B (sym (c.post.ensures.workers ∙ c.reserve.ensures.workers)) one)

pub returns-in-None-clause-refused : goal.returns-in-None-clause-refused
returns-in-None-clause-refused g c e =
    (λ j. record { shown = c.in-None.ensures.same j; waits = counts_same (g.V.Views.workers c.self.inside.views) (g.V.Views.workers c.reserve.new.self) (g.V.Views.waiting c.self.inside.views) (g.V.Views.waiting c.reserve.new.self) c.reserve.ensures.workers c.reserve.ensures.waiting j; behind = first_of (suc (c.reserve.ensures.workers j)) (λ k. c.reserve.ensures.behind 0 k j); passed = c.self.inside.passed }) ∙ c.self.view_is
