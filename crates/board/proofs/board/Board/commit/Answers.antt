use Rattle.std.proofs.Common.{suc, ◌≡◌, ◌+◌, ℕ, [], ◌∷◌, List, length, sym, ap, ◌∙◌, subst, arith}
use Rattle.semantics.specs.Multiset.{Record}
use Rattle.semantics.specs.Could.{CouldResultIn}
use Rattle.semantics.specs.Graph.{input_count}
use Rattle.machine.specs.Posting.{MayPost}
use Rattle.machine.specs.Step.{Step}
use Rattle.views.specs.Waiting.{batch}
use Rattle.board.specs.Answers.{Holds}
use Rattle.board.specs.Commits.{IsOf, Settles, SettlesBy}
use Rattle.board.specs.Counting.{TellsCommit}
use Rattle.board.specs.Kept.{Goes, IsKept}
use Rattle.board.specs.Lateness.{first_of, BoardShown, Posts}
use Rattle.board.specs.Shown.{Shown, tables}
use Rattle.board.proofs.BoardCalls.{commit_goes, commit_tables, kept_commit}
use Rattle.board.proofs.Counted.{committed_passed, few_open, keeps_same}
use Rattle.board.proofs.Lateness.{board_of, counts_same, posted_prompt, posted_some, posts}
use Rattle.board.proofs.Posts.{may_commit, settled_inputs, settled_workers, settles_from}
use Rattle.events.specs.Jobs.{Pass}
use Rattle.board.proofs.Facts.{own_side}
use Rattle.board.proofs.Called.{keeps_called}
use Rattle.board.proofs.Seeing.{none_posted, seen_posted}
use Rattle.board.proofs.board.Board.commit.Goals as goal

pub post_noted-requires-clause-sender : goal.post_noted-requires-clause-sender
post_noted-requires-clause-sender g c =
    let s : Shown = c.self.inside.state in
    let p : Pass = c.args.done in
    let n = c.self.invariant.viewers_are in
    let of : IsOf s p = subst (λ (b : BoardShown). IsOf b.shown p) (sym c.self.view_is) c.requires in
    let x : SettlesBy s c.commit.new.self c.commit.new.added.items c.in-Ok.place p = c.in-Ok.ensures.settles in
    let own = own_side s p of in
    let e = c.worker-worker.ensures in
    let w = c.commit.ensures.workers in
    omega (arith, own.0, e, n, w)

pub post_noted-requires-clause-room : goal.post_noted-requires-clause-room
post_noted-requires-clause-room g c = let r = c.in-Ok.ensures.room in omega (arith, r)

pub post_noted-requires-clause-may : goal.post_noted-requires-clause-may
post_noted-requires-clause-may g c =
    let s : Shown = c.self.inside.state in
    let p : Pass = c.args.done in
    let n = c.self.invariant.viewers_are in
    let of : IsOf s p = subst (λ (b : BoardShown). IsOf b.shown p) (sym c.self.view_is) c.requires in
    let x : SettlesBy s c.commit.new.self c.commit.new.added.items c.in-Ok.place p = c.in-Ok.ensures.settles in
    let P : ℕ → Type 0 = λ m. MayPost (CouldResultIn (g.V.Views.graph c.commit.new.views)) (input_count (g.V.Views.graph c.commit.new.views)) (g.V.Views.workers c.commit.new.views) (g.V.Views.content c.commit.new.views) (batch m c.commit.new.added.items (c.in-Ok.place ∷ [])) in
    subst P (sym c.worker-worker.ensures) (may_commit c.law_of_step.ensures.may (g.V.Views.graph c.self.inside.views) (g.V.Views.graph c.commit.new.views) (g.V.Views.workers c.commit.new.views) (g.V.Views.content c.self.inside.views) (g.V.Views.content c.commit.new.views) s c.self.invariant.kept (c.commit.ensures.workers ∙ n) c.commit.ensures.graph c.commit.ensures.content p of c.commit.new.self c.commit.new.added.items c.in-Ok.place x)

pub commit-requires-clause-own : goal.commit-requires-clause-own
commit-requires-clause-own g c = subst (λ (b : BoardShown). IsOf b.shown c.args.done) (sym c.self.view_is) c.requires

pub invariant_of-self : goal.invariant_of-self
invariant_of-self g c =
    let s : Shown = c.self.inside.state in
    let p : Pass = c.args.done in
    let n = c.self.invariant.viewers_are in
    let of : IsOf s p = subst (λ (b : BoardShown). IsOf b.shown p) (sym c.self.view_is) c.requires in
    let x : SettlesBy s c.commit.new.self c.commit.new.added.items c.in-Ok.place p = c.in-Ok.ensures.settles in
    let settles : Settles s c.commit.new.self (g.V.Views.content c.self.inside.views) (g.V.Views.content c.post_noted.new.views) p = settles_from (g.V.Views.content c.self.inside.views) (g.V.Views.content c.commit.new.views) (g.V.Views.content c.post_noted.new.views) s c.commit.new.self c.commit.new.added.items c.in-Ok.place p c.commit.ensures.content c.post_noted.ensures.content x in
    let same : (g.V.Views.graph c.post_noted.new.views) ≡ (g.V.Views.graph c.self.inside.views) = c.post_noted.ensures.graph ∙ c.commit.ensures.graph in
    record {
      kept = kept_commit (g.V.Views.graph c.self.inside.views) (g.V.Views.graph c.post_noted.new.views) (g.V.Views.content c.self.inside.views) (g.V.Views.content c.post_noted.new.views) s c.commit.new.self p c.self.invariant.kept of settles same;
      viewers_are = c.post_noted.ensures.workers ∙ c.commit.ensures.workers ∙ n ∙ sym (settled_workers s c.commit.new.self c.commit.new.added.items c.in-Ok.place p x);
      closes = (
          let r = c.in-Ok.ensures.room in
          let q = c.post_noted.ensures.room in
          let o = few_open c.commit.new.self.inputs in
          let m = ap length (settled_inputs s c.commit.new.self c.commit.new.added.items c.in-Ok.place p x) in
          let k = c.self.invariant.kept.inputs in
          omega (arith, r, q, o, m, k)
          );
      prompt = λ late w k l m. posted_prompt g.V.Views.late (g.V.Views.waiting c.commit.new.views) (g.V.Views.waiting c.self.inside.views) (g.V.Views.waiting c.post_noted.new.views) (batch c.worker-worker.result c.commit.new.added.items (c.in-Ok.place ∷ [])) (length c.commit.new.added.items + length (c.in-Ok.place ∷ [])) (g.V.Views.workers c.self.inside.views) c.commit.ensures.waiting (λ x y z. c.post_noted.ensures.waiting x y (let e = c.commit.ensures.workers in omega (arith, z, e))) c.self.invariant.prompt late w k (let e = c.post_noted.ensures.workers in let f = c.commit.ensures.workers in omega (arith, l, e, f)) (let e = c.post_noted.ensures.workers in let f = c.commit.ensures.workers in omega (arith, m, e, f));
      passed_are = (committed_passed (g.V.Views.graph c.self.inside.views) (g.V.Views.workers c.self.inside.views) (g.V.Views.content c.self.inside.views) (g.V.Views.waiting c.self.inside.views) (g.V.Views.room c.self.inside.views) g.V.Views.late c.self.inside.passed s c.self.invariant c.commit.new.self (g.V.Views.content c.post_noted.new.views) p of settles);
      passed_seen = (seen_posted (g.V.Views.graph c.self.inside.views) (g.V.Views.graph c.commit.new.views) (g.V.Views.workers c.self.inside.views) (g.V.Views.workers c.commit.new.views) (g.V.Views.content c.self.inside.views) (g.V.Views.content c.commit.new.views) (g.V.Views.content c.post_noted.new.views) (g.V.Views.waiting c.self.inside.views) (g.V.Views.waiting c.commit.new.views) (g.V.Views.waiting c.post_noted.new.views) s c.self.invariant.kept n c.commit.ensures.graph c.commit.ensures.workers c.commit.ensures.content c.commit.ensures.waiting c.post_noted.ensures.stays
          (g.V.Views.graph c.post_noted.new.views) (g.V.Views.workers c.post_noted.new.views) c.commit.new.self c.self.inside.passed (c.post_noted.ensures.graph ∙ c.commit.ensures.graph) (c.post_noted.ensures.workers ∙ c.commit.ensures.workers) (ap (λ (z : Shown). z.graph) x.state) c.self.invariant.passed_seen);
    }

pub invariant_of-self-in-Err : goal.invariant_of-self-in-Err
invariant_of-self-in-Err g c =
    let s : Shown = c.self.inside.state in
    keeps_same (g.V.Views.graph c.self.inside.views) (g.V.Views.workers c.self.inside.views) (g.V.Views.content c.self.inside.views) (g.V.Views.waiting c.self.inside.views) (g.V.Views.room c.self.inside.views) g.V.Views.late c.self.inside.passed s c.self.invariant c.commit.new.self (g.V.Views.graph c.commit.new.views) (g.V.Views.workers c.commit.new.views) (g.V.Views.content c.commit.new.views) (g.V.Views.waiting c.commit.new.views) (g.V.Views.room c.commit.new.views) c.commit.ensures.graph c.commit.ensures.workers c.commit.ensures.content c.commit.ensures.waiting c.commit.ensures.kept c.in-Err.ensures.same

pub returns-in-Ok-clause-commits : goal.returns-in-Ok-clause-commits
returns-in-Ok-clause-commits g c =
    let s : Shown = c.self.inside.state in
    let p : Pass = c.args.done in
    let n = c.self.invariant.viewers_are in
    let of : IsOf s p = subst (λ (b : BoardShown). IsOf b.shown p) (sym c.self.view_is) c.requires in
    let x : SettlesBy s c.commit.new.self c.commit.new.added.items c.in-Ok.place p = c.in-Ok.ensures.settles in
    let settles : Settles s c.commit.new.self (g.V.Views.content c.self.inside.views) (g.V.Views.content c.post_noted.new.views) p = settles_from (g.V.Views.content c.self.inside.views) (g.V.Views.content c.commit.new.views) (g.V.Views.content c.post_noted.new.views) s c.commit.new.self c.commit.new.added.items c.in-Ok.place p c.commit.ensures.content c.post_noted.ensures.content x in
    let same : (g.V.Views.graph c.post_noted.new.views) ≡ (g.V.Views.graph c.self.inside.views) = c.post_noted.ensures.graph ∙ c.commit.ensures.graph in
    let Q : BoardShown → Type 0 = λ z. Holds z.shown p × ((out : ℕ → List Record) × Goes z.shown (Step.commit p.worker p.job.happening out) c.commit.new.self) in
    subst Q c.self.view_is (commit_goes (g.V.Views.graph c.self.inside.views) (g.V.Views.graph c.post_noted.new.views) (g.V.Views.content c.self.inside.views) (g.V.Views.content c.post_noted.new.views) s c.commit.new.self p c.self.invariant.kept of settles)

pub returns-in-Ok-clause-tells : goal.returns-in-Ok-clause-tells
returns-in-Ok-clause-tells g c =
    let Q : BoardShown → Type 0 = λ z. TellsCommit z.shown c.commit.new.self c.args.done c.in-Ok.sent in
    subst Q c.self.view_is c.in-Ok.ensures.tells

pub returns-in-Ok-clause-tables : goal.returns-in-Ok-clause-tables
returns-in-Ok-clause-tables g c =
    let s : Shown = c.self.inside.state in
    let p : Pass = c.args.done in
    let n = c.self.invariant.viewers_are in
    let of : IsOf s p = subst (λ (b : BoardShown). IsOf b.shown p) (sym c.self.view_is) c.requires in
    let x : SettlesBy s c.commit.new.self c.commit.new.added.items c.in-Ok.place p = c.in-Ok.ensures.settles in
    let settles : Settles s c.commit.new.self (g.V.Views.content c.self.inside.views) (g.V.Views.content c.post_noted.new.views) p = settles_from (g.V.Views.content c.self.inside.views) (g.V.Views.content c.commit.new.views) (g.V.Views.content c.post_noted.new.views) s c.commit.new.self c.commit.new.added.items c.in-Ok.place p c.commit.ensures.content c.post_noted.ensures.content x in
    let same : (g.V.Views.graph c.post_noted.new.views) ≡ (g.V.Views.graph c.self.inside.views) = c.post_noted.ensures.graph ∙ c.commit.ensures.graph in
    commit_tables (g.V.Views.graph c.self.inside.views) (g.V.Views.graph c.post_noted.new.views) (g.V.Views.content c.self.inside.views) (g.V.Views.content c.post_noted.new.views) s c.commit.new.self p c.self.invariant.kept of settles ∙ ap tables (ap (λ (b : BoardShown). b.shown) c.self.view_is)

pub returns-in-Ok-clause-posts : goal.returns-in-Ok-clause-posts
returns-in-Ok-clause-posts g c =
    let s : Shown = c.self.inside.state in
    let p : Pass = c.args.done in
    let n = c.self.invariant.viewers_are in
    let of : IsOf s p = subst (λ (b : BoardShown). IsOf b.shown p) (sym c.self.view_is) c.requires in
    let x : SettlesBy s c.commit.new.self c.commit.new.added.items c.in-Ok.place p = c.in-Ok.ensures.settles in
    let settles : Settles s c.commit.new.self (g.V.Views.content c.self.inside.views) (g.V.Views.content c.post_noted.new.views) p = settles_from (g.V.Views.content c.self.inside.views) (g.V.Views.content c.commit.new.views) (g.V.Views.content c.post_noted.new.views) s c.commit.new.self c.commit.new.added.items c.in-Ok.place p c.commit.ensures.content c.post_noted.ensures.content x in
    let same : (g.V.Views.graph c.post_noted.new.views) ≡ (g.V.Views.graph c.self.inside.views) = c.post_noted.ensures.graph ∙ c.commit.ensures.graph in
    let kept_then : IsKept (g.V.Views.graph c.post_noted.new.views) (g.V.Views.content c.post_noted.new.views) c.commit.new.self = kept_commit (g.V.Views.graph c.self.inside.views) (g.V.Views.graph c.post_noted.new.views) (g.V.Views.content c.self.inside.views) (g.V.Views.content c.post_noted.new.views) s c.commit.new.self p c.self.invariant.kept of settles same in
    let called = keeps_called (g.V.Views.graph c.self.inside.views) (g.V.Views.graph c.post_noted.new.views) (g.V.Views.workers c.self.inside.views) (g.V.Views.content c.self.inside.views) (g.V.Views.content c.post_noted.new.views) (g.V.Views.waiting c.self.inside.views) (g.V.Views.waiting c.post_noted.new.views) (g.V.Views.behind c.self.inside.views 0) (g.V.Views.behind c.post_noted.new.views 0) s c.commit.new.self c.self.inside.passed c.self.inside.passed (g.met.V.Views.as_lists c.self.inside.views 0) (g.met.V.Views.as_lists c.post_noted.new.views 0) c.self.invariant.kept kept_then
    n (n ∙ sym (settled_workers s c.commit.new.self c.commit.new.added.items c.in-Ok.place p x)) (c.post_noted.ensures.graph ∙ c.commit.ensures.graph)
    (none_posted (g.V.Views.graph c.self.inside.views) (g.V.Views.graph c.commit.new.views) (g.V.Views.workers c.self.inside.views) (g.V.Views.workers c.commit.new.views) (g.V.Views.content c.self.inside.views) (g.V.Views.content c.commit.new.views) (g.V.Views.content c.post_noted.new.views) (g.V.Views.waiting c.self.inside.views) (g.V.Views.waiting c.commit.new.views) (g.V.Views.waiting c.post_noted.new.views) s c.self.invariant.kept n c.commit.ensures.graph c.commit.ensures.workers c.commit.ensures.content c.commit.ensures.waiting c.post_noted.ensures.stays) in
    let after = posted_some g.V.Views.late (g.V.Views.waiting c.commit.new.views) (g.V.Views.waiting c.self.inside.views) (g.V.Views.waiting c.post_noted.new.views) (batch c.worker-worker.result c.commit.new.added.items (c.in-Ok.place ∷ [])) (length c.commit.new.added.items + length (c.in-Ok.place ∷ [])) (g.V.Views.workers c.self.inside.views) (omega arith) c.commit.ensures.waiting (λ w k l. c.post_noted.ensures.waiting w k (let e = c.commit.ensures.workers in omega (arith, l, e))) in
    let one : Posts g.V.Views.late c.worker-worker.result (board_of s (g.V.Views.workers c.self.inside.views) (g.V.Views.waiting c.self.inside.views) (g.V.Views.behind c.self.inside.views 0) c.self.inside.passed) (board_of c.commit.new.self (g.V.Views.workers c.self.inside.views) (g.V.Views.waiting c.post_noted.new.views) (g.V.Views.behind c.post_noted.new.views 0) c.self.inside.passed) =
    posts s (g.V.Views.workers c.self.inside.views) (g.V.Views.waiting c.self.inside.views) c.self.inside.passed c.commit.new.self (g.V.Views.waiting c.post_noted.new.views) c.self.inside.passed g.V.Views.late c.worker-worker.result c.commit.new.added.items (c.in-Ok.place ∷ []) (g.V.Views.behind c.self.inside.views 0) (g.V.Views.behind c.post_noted.new.views 0) (sym n) after called in
    let A : ℕ → Type 0 = λ m. Posts g.V.Views.late m (board_of s (g.V.Views.workers c.self.inside.views) (g.V.Views.waiting c.self.inside.views) (g.V.Views.behind c.self.inside.views 0) c.self.inside.passed) (board_of c.commit.new.self (g.V.Views.workers c.post_noted.new.views) (g.V.Views.waiting c.post_noted.new.views) (g.V.Views.behind c.post_noted.new.views 0) c.self.inside.passed) in
    let B : ℕ → Type 0 = λ m. Posts g.V.Views.late c.worker-worker.result (board_of s (g.V.Views.workers c.self.inside.views) (g.V.Views.waiting c.self.inside.views) (g.V.Views.behind c.self.inside.views 0) c.self.inside.passed) (board_of c.commit.new.self m (g.V.Views.waiting c.post_noted.new.views) (g.V.Views.behind c.post_noted.new.views 0) c.self.inside.passed) in
    let D : BoardShown → Type 0 = λ z. Posts g.V.Views.late p.worker z (board_of c.commit.new.self (g.V.Views.workers c.post_noted.new.views) (g.V.Views.waiting c.post_noted.new.views) (g.V.Views.behind c.post_noted.new.views 0) c.self.inside.passed) in
    subst D c.self.view_is (subst A c.worker-worker.ensures (subst B (sym (c.post_noted.ensures.workers ∙ c.commit.ensures.workers)) one))

pub returns-in-Err-clause-refused : goal.returns-in-Err-clause-refused
returns-in-Err-clause-refused g c =
    (λ j. record { shown = c.in-Err.ensures.same j; waits = counts_same (g.V.Views.workers c.self.inside.views) (g.V.Views.workers c.commit.new.views) (g.V.Views.waiting c.self.inside.views) (g.V.Views.waiting c.commit.new.views) c.commit.ensures.workers c.commit.ensures.waiting j; behind = first_of (suc (c.commit.ensures.workers j)) (λ k. c.commit.ensures.behind 0 k j); passed = c.self.inside.passed }) ∙ c.self.view_is

pub returns-in-Err-clause-commits : goal.returns-in-Err-clause-commits
returns-in-Err-clause-commits g c = (c.in-Err.ensures.back, c.in-Err.ensures.same ∙ (ap (λ (b : BoardShown). b.shown) c.self.view_is))

pub returns-in-Err-clause-tables : goal.returns-in-Err-clause-tables
returns-in-Err-clause-tables g c = ap tables (c.in-Err.ensures.same ∙ (ap (λ (b : BoardShown). b.shown) c.self.view_is))
