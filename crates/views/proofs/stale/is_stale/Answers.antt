use Rattle.std.proofs.Common.{◌≡◌, ◌∙◌, false, sym, ap, arith}
use Rattle.semantics.specs.Multiset.{total}
use Rattle.machine.specs.Views.{Changes}
use Rattle.progress.proofs.Contents.{got_at}
use Rattle.views.specs.Queued.{adds_in, removes_in, batches_of}
use Rattle.views.specs.WorkerViews.{untaken_at, waiting_of}
use Rattle.views.proofs.SenderSums.{sum_next}
use Rattle.views.proofs.PostedBatches.{left_got}
use Rattle.views.proofs.StaleCounts.{adds_total, removes_total}
use Rattle.views.proofs.stale.is_stale.Goals as goal

pub loop-s-preserved : goal.loop-s-preserved
loop-s-preserved c =
    let qs = c.args.queues.now in
    let s = c.loop-s.s in
    let w = c.args.worker in
    let p = c.args.p.now in
    let q = c.index-queues-s.result in
    let got = got_at qs s q c.loop-s-test.true c.index-queues-s.is in
    let xs = c.waiting.result.now in
    let e : untaken_at qs s w ≡ xs = left_got qs s w q got ∙ sym c.waiting.ensures.waiting in
    let a : total (λ (b : Changes). b.adds p) (waiting_of qs w s) ≡ adds_in xs p = ap (λ l. total (λ (b : Changes). b.adds p) (batches_of s l)) e ∙ adds_total s false xs p c.waiting.ensures.ends in
    let r : total (λ (b : Changes). b.removes p) (waiting_of qs w s) ≡ removes_in xs p = ap (λ l. total (λ (b : Changes). b.removes p) (batches_of s l)) e ∙ removes_total s false xs p c.waiting.ensures.ends in
    let na = sum_next s (λ t. total (λ (b : Changes). b.adds p) (waiting_of qs w t)) in
    let nr = sum_next s (λ t. total (λ (b : Changes). b.removes p) (waiting_of qs w t)) in
    let i = c.loop-s.invariant in
    record { adds = omega arith; removes = omega arith; few_adds = omega arith; few_removes = omega arith }
