use Rattle.std.proofs.Common.{◌≡◌, inl, inr, [], sym, ap, subst, ◌∙◌}
use Rattle.semantics.proofs.Cases.{below_or_last}
use Rattle.progress.proofs.Contents.{got_at}
use Rattle.views.specs.Queued.{batches_of}
use Rattle.views.specs.WorkerViews.{waiting_of}
use Rattle.views.proofs.PostedBatches.{left_got}
use Rattle.views.proofs.local_views.some_wait.Goals as goal

pub returns-then-has_waiting : goal.returns-then-has_waiting
returns-then-has_waiting c =
    let qs = c.args.queues.now in
    let s = c.loop-s.s in
    let w = c.args.worker in
    let q = c.index-queues-s.result in
    let got = got_at qs s q c.loop-s-test.true c.index-queues-s.is in
    (s, c.loop-s-test.true, λ e. c.if-has_waiting.ensures s (ap (batches_of s) (sym (left_got qs s w q got)) ∙ e))

pub loop-s-preserved : goal.loop-s-preserved
loop-s-preserved c = λ t l.
    let qs = c.args.queues.now in
    let s = c.loop-s.s in
    let w = c.args.worker in
    let q = c.index-queues-s.result in
    let got = got_at qs s q c.loop-s-test.true c.index-queues-s.is in
    let here : waiting_of qs w s ≡ [] = ap (batches_of s) (left_got qs s w q got) ∙ c.if-has_waiting.ensures s in
    elim (below_or_last t s l) [
      | inl x ↦ c.loop-s.invariant t x
      | inr x ↦ subst (λ i. waiting_of qs w i ≡ []) (sym x) here
    ]
