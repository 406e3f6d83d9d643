use Rattle.std.proofs.Common.{suc, ◌≡◌, ◌<◌, ◌+◌, ℕ, [], List, None, length, sym, ap, ◌∙◌, subst, arith}
use Rattle.std.specs.List.{All}
use Rattle.semantics.specs.Multiset.{Record}
use Rattle.machine.specs.Step.{Step}
use Rattle.rows.specs.FlatRows.{arity_of}
use Rattle.views.specs.Waiting.{batch}
use Rattle.board.specs.Answers.{feed_refusal}
use Rattle.board.specs.Commits.{Feeds, FeedsBy}
use Rattle.board.specs.Kept.{Goes, IsKept}
use Rattle.board.specs.Lateness.{first_of, BoardShown, PostsSome}
use Rattle.board.specs.Shown.{Shown, tables}
use Rattle.board.proofs.FedBatches.{each_record, some_records}
use Rattle.board.proofs.BoardCalls.{feed_tables}
use Rattle.board.proofs.Counted.{fed_passed, few_open, keeps_same}
use Rattle.board.proofs.Feeding.{accepted, feeds_goes, feeds_kept}
use Rattle.board.proofs.Lateness.{board_of, counts_same, posted_prompt}
use Rattle.board.proofs.Posts.{feeds_from, may_feed, fed_inputs, fed_workers, posts_fed}
use Rattle.board.proofs.Called.{keeps_called}
use Rattle.board.proofs.Seeing.{none_posted, seen_posted}
use Rattle.board.proofs.board.Board.feed_cut.Goals as goal

pub post_noted-requires-clause-sender : goal.post_noted-requires-clause-sender
post_noted-requires-clause-sender g c =
    let s : Shown = c.self.inside.state in
    let i : ℕ = c.args.cut.input in
    let rs : List Record = c.args.cut.batch in
    let asked : feed_refusal c.args.self.now.shown c.input.result c.batch-batch.result.now ≡ None = sym c.feed_refusal.ensures ∙ c.in_default.is in
    let here : feed_refusal c.args.self.now.shown i c.batch-batch.result.now ≡ None = subst (λ (n : ℕ). feed_refusal c.args.self.now.shown n c.batch-batch.result.now ≡ None) c.input.ensures asked in
    let these : feed_refusal c.args.self.now.shown i rs ≡ None = subst (λ (z : List Record). feed_refusal c.args.self.now.shown i z ≡ None) c.batch-batch.ensures here in
    let none : feed_refusal s i rs ≡ None = subst (λ (z : BoardShown). feed_refusal z.shown i rs ≡ None) (sym c.self.view_is) these in
    let a = accepted s i rs none (subst (λ (z : List Record). 0 < length z) c.batch-batch.ensures (some_records c.batch-batch.result.now c.arity-fields.ensures.some)) (subst (λ (z : List Record). All (λ (r : Record). length r ≡ arity_of z) z) c.batch-batch.ensures (each_record (λ r. length r ≡ arity_of c.batch-batch.result.now) c.batch-batch.result.now c.len-some.ensures.all c.arity-fields.ensures.each)) in
    let f : FeedsBy s c.feed.new.self c.feed.new.added.items i rs = c.in-Ok.ensures.feeds in
    let n = c.self.invariant.viewers_are in
    let by : c.worker_count-feeder.result ≡ length s.sides = c.worker_count-feeder.ensures ∙ fed_workers s c.feed.new.self c.feed.new.added.items i rs f in
    let w = c.feed.ensures.workers in omega (arith, by, n, w)

pub post_noted-requires-clause-room : goal.post_noted-requires-clause-room
post_noted-requires-clause-room g c = let r = c.in-Ok.ensures.room in omega (arith, r)

pub post_noted-requires-clause-may : goal.post_noted-requires-clause-may
post_noted-requires-clause-may g c =
    let s : Shown = c.self.inside.state in
    let i : ℕ = c.args.cut.input in
    let rs : List Record = c.args.cut.batch in
    let asked : feed_refusal c.args.self.now.shown c.input.result c.batch-batch.result.now ≡ None = sym c.feed_refusal.ensures ∙ c.in_default.is in
    let here : feed_refusal c.args.self.now.shown i c.batch-batch.result.now ≡ None = subst (λ (n : ℕ). feed_refusal c.args.self.now.shown n c.batch-batch.result.now ≡ None) c.input.ensures asked in
    let these : feed_refusal c.args.self.now.shown i rs ≡ None = subst (λ (z : List Record). feed_refusal c.args.self.now.shown i z ≡ None) c.batch-batch.ensures here in
    let none : feed_refusal s i rs ≡ None = subst (λ (z : BoardShown). feed_refusal z.shown i rs ≡ None) (sym c.self.view_is) these in
    let a = accepted s i rs none (subst (λ (z : List Record). 0 < length z) c.batch-batch.ensures (some_records c.batch-batch.result.now c.arity-fields.ensures.some)) (subst (λ (z : List Record). All (λ (r : Record). length r ≡ arity_of z) z) c.batch-batch.ensures (each_record (λ r. length r ≡ arity_of c.batch-batch.result.now) c.batch-batch.result.now c.len-some.ensures.all c.arity-fields.ensures.each)) in
    let f : FeedsBy s c.feed.new.self c.feed.new.added.items i rs = c.in-Ok.ensures.feeds in
    let n = c.self.invariant.viewers_are in
    let by : c.worker_count-feeder.result ≡ length s.sides = c.worker_count-feeder.ensures ∙ fed_workers s c.feed.new.self c.feed.new.added.items i rs f in
    may_feed c.law_of_step.ensures.may (g.V.Views.graph c.self.inside.views) (g.V.Views.graph c.feed.new.views) (g.V.Views.workers c.feed.new.views) (g.V.Views.content c.self.inside.views) (g.V.Views.content c.feed.new.views) s c.self.invariant.kept (c.feed.ensures.workers ∙ n) c.feed.ensures.graph c.feed.ensures.content i a.takes c.worker_count-feeder.result by rs a.some a.fields c.feed.new.self c.feed.new.added.items f

pub invariant_of-self : goal.invariant_of-self
invariant_of-self g c =
    let s : Shown = c.self.inside.state in
    let i : ℕ = c.args.cut.input in
    let rs : List Record = c.args.cut.batch in
    let asked : feed_refusal c.args.self.now.shown c.input.result c.batch-batch.result.now ≡ None = sym c.feed_refusal.ensures ∙ c.in_default.is in
    let here : feed_refusal c.args.self.now.shown i c.batch-batch.result.now ≡ None = subst (λ (n : ℕ). feed_refusal c.args.self.now.shown n c.batch-batch.result.now ≡ None) c.input.ensures asked in
    let these : feed_refusal c.args.self.now.shown i rs ≡ None = subst (λ (z : List Record). feed_refusal c.args.self.now.shown i z ≡ None) c.batch-batch.ensures here in
    let none : feed_refusal s i rs ≡ None = subst (λ (z : BoardShown). feed_refusal z.shown i rs ≡ None) (sym c.self.view_is) these in
    let a = accepted s i rs none (subst (λ (z : List Record). 0 < length z) c.batch-batch.ensures (some_records c.batch-batch.result.now c.arity-fields.ensures.some)) (subst (λ (z : List Record). All (λ (r : Record). length r ≡ arity_of z) z) c.batch-batch.ensures (each_record (λ r. length r ≡ arity_of c.batch-batch.result.now) c.batch-batch.result.now c.len-some.ensures.all c.arity-fields.ensures.each)) in
    let f : FeedsBy s c.feed.new.self c.feed.new.added.items i rs = c.in-Ok.ensures.feeds in
    let n = c.self.invariant.viewers_are in
    let feeds : Feeds s c.feed.new.self (g.V.Views.content c.self.inside.views) (g.V.Views.content c.post_noted.new.views) i rs = feeds_from (g.V.Views.content c.self.inside.views) (g.V.Views.content c.feed.new.views) (g.V.Views.content c.post_noted.new.views) s c.feed.new.self c.feed.new.added.items i rs c.feed.ensures.content c.post_noted.ensures.content f in
    let same : (g.V.Views.graph c.post_noted.new.views) ≡ (g.V.Views.graph c.self.inside.views) = c.post_noted.ensures.graph ∙ c.feed.ensures.graph in
    record {
      kept = feeds_kept (g.V.Views.graph c.self.inside.views) (g.V.Views.graph c.post_noted.new.views) (g.V.Views.content c.self.inside.views) (g.V.Views.content c.post_noted.new.views) s c.feed.new.self c.self.invariant.kept i a.takes rs a.some a.fields feeds same;
      viewers_are = c.post_noted.ensures.workers ∙ c.feed.ensures.workers ∙ n ∙ sym (fed_workers s c.feed.new.self c.feed.new.added.items i rs f);
      closes = (
          let r = c.in-Ok.ensures.room in
          let p = c.post_noted.ensures.room in
          let o = few_open c.feed.new.self.inputs in
          let m = fed_inputs s c.feed.new.self c.feed.new.added.items i rs f in
          let k = c.self.invariant.kept.inputs in
          omega (arith, r, p, o, m, k)
          );
      prompt = λ late w k l m. posted_prompt g.V.Views.late (g.V.Views.waiting c.feed.new.views) (g.V.Views.waiting c.self.inside.views) (g.V.Views.waiting c.post_noted.new.views) (batch c.worker_count-feeder.result c.feed.new.added.items []) (length c.feed.new.added.items + 0) (g.V.Views.workers c.self.inside.views) c.feed.ensures.waiting (λ x y z. c.post_noted.ensures.waiting x y (let e = c.feed.ensures.workers in omega (arith, z, e))) c.self.invariant.prompt late w k (let e = c.post_noted.ensures.workers in let e' = c.feed.ensures.workers in omega (arith, l, e, e')) (let e = c.post_noted.ensures.workers in let e' = c.feed.ensures.workers in omega (arith, m, e, e'));
      passed_are = (fed_passed (g.V.Views.graph c.self.inside.views) (g.V.Views.workers c.self.inside.views) (g.V.Views.content c.self.inside.views) (g.V.Views.waiting c.self.inside.views) (g.V.Views.room c.self.inside.views) g.V.Views.late c.self.inside.passed s c.self.invariant c.feed.new.self (g.V.Views.content c.post_noted.new.views) i a.takes rs a.some a.fields feeds);
      passed_seen = (seen_posted (g.V.Views.graph c.self.inside.views) (g.V.Views.graph c.feed.new.views) (g.V.Views.workers c.self.inside.views) (g.V.Views.workers c.feed.new.views) (g.V.Views.content c.self.inside.views) (g.V.Views.content c.feed.new.views) (g.V.Views.content c.post_noted.new.views) (g.V.Views.waiting c.self.inside.views) (g.V.Views.waiting c.feed.new.views) (g.V.Views.waiting c.post_noted.new.views) s c.self.invariant.kept n c.feed.ensures.graph c.feed.ensures.workers c.feed.ensures.content c.feed.ensures.waiting c.post_noted.ensures.stays
          (g.V.Views.graph c.post_noted.new.views) (g.V.Views.workers c.post_noted.new.views) c.feed.new.self c.self.inside.passed (c.post_noted.ensures.graph ∙ c.feed.ensures.graph) (c.post_noted.ensures.workers ∙ c.feed.ensures.workers) (ap (λ (z : Shown). z.graph) f.state) c.self.invariant.passed_seen);
    }

pub invariant_of-self-in-Err : goal.invariant_of-self-in-Err
invariant_of-self-in-Err g c =
    let s : Shown = c.self.inside.state in
    keeps_same (g.V.Views.graph c.self.inside.views) (g.V.Views.workers c.self.inside.views) (g.V.Views.content c.self.inside.views) (g.V.Views.waiting c.self.inside.views) (g.V.Views.room c.self.inside.views) g.V.Views.late c.self.inside.passed s c.self.invariant c.feed.new.self (g.V.Views.graph c.feed.new.views) (g.V.Views.workers c.feed.new.views) (g.V.Views.content c.feed.new.views) (g.V.Views.waiting c.feed.new.views) (g.V.Views.room c.feed.new.views) c.feed.ensures.graph c.feed.ensures.workers c.feed.ensures.content c.feed.ensures.waiting c.feed.ensures.kept c.in-Err.ensures.state

pub returns-in-Ok-clause-step : goal.returns-in-Ok-clause-step
returns-in-Ok-clause-step g c =
    let s : Shown = c.self.inside.state in
    let i : ℕ = c.args.cut.input in
    let rs : List Record = c.args.cut.batch in
    let asked : feed_refusal c.args.self.now.shown c.input.result c.batch-batch.result.now ≡ None = sym c.feed_refusal.ensures ∙ c.in_default.is in
    let here : feed_refusal c.args.self.now.shown i c.batch-batch.result.now ≡ None = subst (λ (n : ℕ). feed_refusal c.args.self.now.shown n c.batch-batch.result.now ≡ None) c.input.ensures asked in
    let these : feed_refusal c.args.self.now.shown i rs ≡ None = subst (λ (z : List Record). feed_refusal c.args.self.now.shown i z ≡ None) c.batch-batch.ensures here in
    let none : feed_refusal s i rs ≡ None = subst (λ (z : BoardShown). feed_refusal z.shown i rs ≡ None) (sym c.self.view_is) these in
    let a = accepted s i rs none (subst (λ (z : List Record). 0 < length z) c.batch-batch.ensures (some_records c.batch-batch.result.now c.arity-fields.ensures.some)) (subst (λ (z : List Record). All (λ (r : Record). length r ≡ arity_of z) z) c.batch-batch.ensures (each_record (λ r. length r ≡ arity_of c.batch-batch.result.now) c.batch-batch.result.now c.len-some.ensures.all c.arity-fields.ensures.each)) in
    let f : FeedsBy s c.feed.new.self c.feed.new.added.items i rs = c.in-Ok.ensures.feeds in
    let n = c.self.invariant.viewers_are in
    let feeds : Feeds s c.feed.new.self (g.V.Views.content c.self.inside.views) (g.V.Views.content c.post_noted.new.views) i rs = feeds_from (g.V.Views.content c.self.inside.views) (g.V.Views.content c.feed.new.views) (g.V.Views.content c.post_noted.new.views) s c.feed.new.self c.feed.new.added.items i rs c.feed.ensures.content c.post_noted.ensures.content f in
    let same : (g.V.Views.graph c.post_noted.new.views) ≡ (g.V.Views.graph c.self.inside.views) = c.post_noted.ensures.graph ∙ c.feed.ensures.graph in
    let R : BoardShown → Type 0 = λ z. Goes z.shown (Step.feed i rs) c.feed.new.self in
    subst R c.self.view_is (feeds_goes (g.V.Views.graph c.self.inside.views) (g.V.Views.graph c.post_noted.new.views) (g.V.Views.content c.self.inside.views) (g.V.Views.content c.post_noted.new.views) s c.feed.new.self c.self.invariant.kept i a.takes rs a.some a.fields feeds)

pub returns-in-Ok-clause-tables : goal.returns-in-Ok-clause-tables
returns-in-Ok-clause-tables g c =
    let s : Shown = c.self.inside.state in
    feed_tables s c.feed.new.self c.feed.new.added.items c.args.cut.input c.args.cut.batch c.in-Ok.ensures.feeds ∙ ap tables (ap (λ (b : BoardShown). b.shown) c.self.view_is)

pub returns-in-Ok-clause-posts : goal.returns-in-Ok-clause-posts
returns-in-Ok-clause-posts g c =
    let s : Shown = c.self.inside.state in
    let i : ℕ = c.args.cut.input in
    let rs : List Record = c.args.cut.batch in
    let asked : feed_refusal c.args.self.now.shown c.input.result c.batch-batch.result.now ≡ None = sym c.feed_refusal.ensures ∙ c.in_default.is in
    let here : feed_refusal c.args.self.now.shown i c.batch-batch.result.now ≡ None = subst (λ (n : ℕ). feed_refusal c.args.self.now.shown n c.batch-batch.result.now ≡ None) c.input.ensures asked in
    let these : feed_refusal c.args.self.now.shown i rs ≡ None = subst (λ (z : List Record). feed_refusal c.args.self.now.shown i z ≡ None) c.batch-batch.ensures here in
    let none : feed_refusal s i rs ≡ None = subst (λ (z : BoardShown). feed_refusal z.shown i rs ≡ None) (sym c.self.view_is) these in
    let a = accepted s i rs none (subst (λ (z : List Record). 0 < length z) c.batch-batch.ensures (some_records c.batch-batch.result.now c.arity-fields.ensures.some)) (subst (λ (z : List Record). All (λ (r : Record). length r ≡ arity_of z) z) c.batch-batch.ensures (each_record (λ r. length r ≡ arity_of c.batch-batch.result.now) c.batch-batch.result.now c.len-some.ensures.all c.arity-fields.ensures.each)) in
    let f : FeedsBy s c.feed.new.self c.feed.new.added.items i rs = c.in-Ok.ensures.feeds in
    let n = c.self.invariant.viewers_are in
    let feeds : Feeds s c.feed.new.self (g.V.Views.content c.self.inside.views) (g.V.Views.content c.post_noted.new.views) i rs = feeds_from (g.V.Views.content c.self.inside.views) (g.V.Views.content c.feed.new.views) (g.V.Views.content c.post_noted.new.views) s c.feed.new.self c.feed.new.added.items i rs c.feed.ensures.content c.post_noted.ensures.content f in
    let same : (g.V.Views.graph c.post_noted.new.views) ≡ (g.V.Views.graph c.self.inside.views) = c.post_noted.ensures.graph ∙ c.feed.ensures.graph in
    let by : c.worker_count-feeder.result ≡ length s.sides = c.worker_count-feeder.ensures ∙ fed_workers s c.feed.new.self c.feed.new.added.items i rs f in
    let kept_then : IsKept (g.V.Views.graph c.post_noted.new.views) (g.V.Views.content c.post_noted.new.views) c.feed.new.self = feeds_kept (g.V.Views.graph c.self.inside.views) (g.V.Views.graph c.post_noted.new.views) (g.V.Views.content c.self.inside.views) (g.V.Views.content c.post_noted.new.views) s c.feed.new.self c.self.invariant.kept i a.takes rs a.some a.fields feeds same in
    let called = keeps_called (g.V.Views.graph c.self.inside.views) (g.V.Views.graph c.post_noted.new.views) (g.V.Views.workers c.self.inside.views) (g.V.Views.content c.self.inside.views) (g.V.Views.content c.post_noted.new.views) (g.V.Views.waiting c.self.inside.views) (g.V.Views.waiting c.post_noted.new.views) (g.V.Views.behind c.self.inside.views 0) (g.V.Views.behind c.post_noted.new.views 0) s c.feed.new.self c.self.inside.passed c.self.inside.passed (g.met.V.Views.as_lists c.self.inside.views 0) (g.met.V.Views.as_lists c.post_noted.new.views 0) c.self.invariant.kept kept_then
    n (n ∙ sym (fed_workers s c.feed.new.self c.feed.new.added.items i rs f)) (c.post_noted.ensures.graph ∙ c.feed.ensures.graph)
    (none_posted (g.V.Views.graph c.self.inside.views) (g.V.Views.graph c.feed.new.views) (g.V.Views.workers c.self.inside.views) (g.V.Views.workers c.feed.new.views) (g.V.Views.content c.self.inside.views) (g.V.Views.content c.feed.new.views) (g.V.Views.content c.post_noted.new.views) (g.V.Views.waiting c.self.inside.views) (g.V.Views.waiting c.feed.new.views) (g.V.Views.waiting c.post_noted.new.views) s c.self.invariant.kept n c.feed.ensures.graph c.feed.ensures.workers c.feed.ensures.content c.feed.ensures.waiting c.post_noted.ensures.stays) in
    let one : PostsSome g.V.Views.late (length s.sides) (board_of s (g.V.Views.workers c.self.inside.views) (g.V.Views.waiting c.self.inside.views) (g.V.Views.behind c.self.inside.views 0) c.self.inside.passed) (board_of c.feed.new.self (g.V.Views.workers c.self.inside.views) (g.V.Views.waiting c.post_noted.new.views) (g.V.Views.behind c.post_noted.new.views 0) c.self.inside.passed) =
    subst (λ (m : ℕ). PostsSome g.V.Views.late m (board_of s (g.V.Views.workers c.self.inside.views) (g.V.Views.waiting c.self.inside.views) (g.V.Views.behind c.self.inside.views 0) c.self.inside.passed) (board_of c.feed.new.self (g.V.Views.workers c.self.inside.views) (g.V.Views.waiting c.post_noted.new.views) (g.V.Views.behind c.post_noted.new.views 0) c.self.inside.passed)) by
    (posts_fed g.V.Views.late s c.feed.new.self (g.V.Views.workers c.self.inside.views) c.worker_count-feeder.result (g.V.Views.waiting c.feed.new.views) (g.V.Views.waiting c.self.inside.views) (g.V.Views.waiting c.post_noted.new.views) (g.V.Views.behind c.self.inside.views 0) (g.V.Views.behind c.post_noted.new.views 0) c.self.inside.passed c.self.inside.passed c.feed.new.added.items i rs f (sym n) c.feed.ensures.waiting (λ w k l. c.post_noted.ensures.waiting w k (let e = c.feed.ensures.workers in omega (arith, l, e))) called) in
    let A : ℕ → Type 0 = λ m. PostsSome g.V.Views.late (length s.sides) (board_of s (g.V.Views.workers c.self.inside.views) (g.V.Views.waiting c.self.inside.views) (g.V.Views.behind c.self.inside.views 0) c.self.inside.passed) (board_of c.feed.new.self m (g.V.Views.waiting c.post_noted.new.views) (g.V.Views.behind c.post_noted.new.views 0) c.self.inside.passed) in
    let B : BoardShown → Type 0 = λ z. PostsSome g.V.Views.late (length z.shown.sides) z (board_of c.feed.new.self (g.V.Views.workers c.post_noted.new.views) (g.V.Views.waiting c.post_noted.new.views) (g.V.Views.behind c.post_noted.new.views 0) c.self.inside.passed) in
    subst B c.self.view_is (subst A (sym (c.post_noted.ensures.workers ∙ c.feed.ensures.workers)) one)

pub returns-in-Err-clause-refused : goal.returns-in-Err-clause-refused
returns-in-Err-clause-refused g c =
    (λ j. record { shown = c.in-Err.ensures.state j; waits = counts_same (g.V.Views.workers c.self.inside.views) (g.V.Views.workers c.feed.new.views) (g.V.Views.waiting c.self.inside.views) (g.V.Views.waiting c.feed.new.views) c.feed.ensures.workers c.feed.ensures.waiting j; behind = first_of (suc (c.feed.ensures.workers j)) (λ k. c.feed.ensures.behind 0 k j); passed = c.self.inside.passed }) ∙ c.self.view_is

pub returns-in-Err-clause-tables : goal.returns-in-Err-clause-tables
returns-in-Err-clause-tables g c = ap tables (c.in-Err.ensures.state ∙ (ap (λ (b : BoardShown). b.shown) c.self.view_is))
