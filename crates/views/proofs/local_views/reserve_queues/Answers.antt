use Rattle.std.proofs.Common.{arith}
use Rattle.std.proofs.lemmas.Option.{slice_get_within}
use Rattle.progress.proofs.Contents.{got_at}
use Rattle.views.proofs.ReservedRoom.{queues_same, queues_set, free_set}
use Rattle.views.proofs.local_views.reserve_queues.Goals as goal

pub loop-s-init : goal.loop-s-init
loop-s-init c = record { same = queues_same c.args.queues.now.items; free = λ s q l g. absurd (omega arith) }

pub returns-in_err-reserve-clause-same : goal.returns-in_err-reserve-clause-same
returns-in_err-reserve-clause-same c =
    let qs = c.loop-s.queues.items in
    let s = c.loop-s.s in
    let q = c.index_mut-queue.result.now in
    let got = got_at qs s q (let l = c.loop-s-test.true in let e = c.len-s-end.ensures in let f = c.loop-s.invariant.same.long in let k = c.args.queues.now.ok.0 in omega arith) c.index_mut-queue.ensures.value in
    queues_set c.args.queues.now.items qs s q c.reserve.new.self c.loop-s.invariant.same got c.reserve.ensures.same

pub loop-s-preserved : goal.loop-s-preserved
loop-s-preserved c =
    let qs = c.loop-s.queues.items in
    let s = c.loop-s.s in
    let q = c.index_mut-queue.result.now in
    let got = got_at qs s q (let l = c.loop-s-test.true in let e = c.len-s-end.ensures in let f = c.loop-s.invariant.same.long in let k = c.args.queues.now.ok.0 in omega arith) c.index_mut-queue.ensures.value in
    record {
      same = queues_set c.args.queues.now.items qs s q c.reserve.new.self c.loop-s.invariant.same got c.reserve.ensures.same;
      free = free_set qs s c.args.count c.reserve.new.self (slice_get_within qs s q got) c.loop-s.invariant.free c.in_ok-reserve.ensures.free;
    }

pub returns-clause-free : goal.returns-clause-free
returns-clause-free c = λ s q got. c.loop-s.invariant.free s q (let a = slice_get_within c.loop-s.queues.items s q got in let t = c.loop-s-test.false in let e = c.len-s-end.ensures in let f = c.loop-s.invariant.same.long in let k = c.args.queues.now.ok.0 in omega arith) got
