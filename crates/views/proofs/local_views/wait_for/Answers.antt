use Rattle.std.proofs.Common.{◌≡◌, length, ap, arith}
use Rattle.progress.proofs.Contents.{got_at}
use Rattle.views.specs.Queued.{untaken, batches_of}
use Rattle.views.specs.WorkerViews.{untaken_at}
use Rattle.views.proofs.PostedBatches.{left_got}
use Rattle.views.proofs.SenderSums.{sum_next}
use Rattle.views.proofs.local_views.wait_for.Goals as goal

pub loop-s-preserved : goal.loop-s-preserved
loop-s-preserved c =
    let qs = c.args.queues.now in
    let s = c.loop-s.s in
    let w = c.args.worker in
    let q = c.index-queues-s.result in
    let got = got_at qs s q (let l = c.loop-s-test.true in omega arith) c.index-queues-s.is in
    let e : length (batches_of s (untaken_at qs s w)) ≡ length (batches_of s (untaken q w)) = ap (λ x. length (batches_of s x)) (left_got qs s w q got) in
    let n = sum_next s (λ t. length (batches_of t (untaken_at qs t w))) in
    let i = c.loop-s.invariant in
    let a = c.count_waiting.ensures s in
    let b = c.saturating_add-sum.ensures in
    omega arith
