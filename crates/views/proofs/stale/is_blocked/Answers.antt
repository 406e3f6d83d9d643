use Rattle.std.proofs.Common.{◌≡◌, ◌∙◌, ◌<◌, inl, inr, List, false, subst, sym, arith}
use Rattle.semantics.specs.Could.{Pointstamp}
use Rattle.semantics.proofs.Cases.{below_or_last}
use Rattle.graph.specs.Shown.{shown_graph}
use Rattle.progress.proofs.Contents.{got_at}
use Rattle.views.specs.declared.queue.Change.{Change}
use Rattle.views.specs.Queued.{AllKnown, EndsFrom, removes_in}
use Rattle.views.specs.WorkerViews.{untaken_at}
use Rattle.views.specs.Stale.{LetsThrough, stale_count}
use Rattle.views.proofs.PostedBatches.{left_got}
use Rattle.views.proofs.TakenBatches.{known_drop}
use Rattle.views.proofs.StaleCounts.{all_passed}
use Rattle.views.proofs.stale.is_blocked.Goals as goal

pub is_blocked_by_one_of-requires-clause-known : goal.is_blocked_by_one_of-requires-clause-known
is_blocked_by_one_of-requires-clause-known c =
    let qs = c.args.queues.now in
    let s = c.loop-s.s in
    let q = c.index-queues-s.result in
    let got = got_at qs s q c.loop-s-test.true c.index-queues-s.is in
    let g = shown_graph c.args.paths.now in
    subst (AllKnown g) (sym c.waiting-waiting.ensures.waiting) (known_drop g q.changes _ (c.requires.known s q got))

pub loop-s-preserved : goal.loop-s-preserved
loop-s-preserved c =
    let qs = c.args.queues.now in
    let s = c.loop-s.s in
    let w = c.args.worker in
    let q = c.index-queues-s.result in
    let got = got_at qs s q c.loop-s-test.true c.index-queues-s.is in
    let g = shown_graph c.args.paths.now in
    let e : untaken_at qs s w ≡ c.waiting-waiting.result.now = left_got qs s w q got ∙ sym c.waiting-waiting.ensures.waiting in
    let here : (r : Pointstamp) → 0 < removes_in (untaken_at qs s w) r → LetsThrough g (stale_count qs w) c.args.p.now c.args.other r = λ r l. c.if-is_blocked_by_one_of.ensures r (subst (λ (ys : List Change). 0 < removes_in ys r) e l) in
    record {
      ends = λ t l. elim (below_or_last t s l) [
        | inl x ↦ c.loop-s.invariant.ends t x
        | inr x ↦ subst (λ i. EndsFrom false (untaken_at qs i w)) (sym x) (subst (EndsFrom false) (sym e) c.waiting-waiting.ensures.ends)
      ];
      passed = λ t l. elim (below_or_last t s l) [
        | inl x ↦ c.loop-s.invariant.passed t x
        | inr x ↦ subst (λ i. (r : Pointstamp) → 0 < removes_in (untaken_at qs i w) r → LetsThrough g (stale_count qs w) c.args.p.now c.args.other r) (sym x) here
      ];
    }

pub returns : goal.returns
returns c =
    let qs = c.args.queues.now in
    let g = shown_graph c.args.paths.now in
    all_passed g qs c.args.worker c.args.p.now c.args.other (λ t l. c.loop-s.invariant.ends t (let z = c.loop-s-test.false in omega arith)) (λ t l. c.loop-s.invariant.passed t (let z = c.loop-s-test.false in omega arith))
