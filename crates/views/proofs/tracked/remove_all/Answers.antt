use Rattle.std.proofs.Common.{◌∙◌, arith}
use Rattle.progress.proofs.Contents.{got_at}
use Rattle.views.proofs.FirstChanges.{times_taken, times_whole, times_left}
use Rattle.views.proofs.tracked.remove_all.Goals as goal

pub remove-requires : goal.remove-requires
remove-requires g c =
    let p = c.index-removed-i.result in
    let xs = c.args.removed.now in
    let there = got_at xs c.loop-i.i p (let l = c.loop-i-test.true in omega arith) c.index-removed-i.is in
    times_left xs c.loop-i.i p (g.P.Progress.content c.args.tracker.now p) (g.P.Progress.content c.loop-i.tracker p) there (c.requires.there p) (c.loop-i.invariant.content p)

pub loop-i-preserved : goal.loop-i-preserved
loop-i-preserved g c =
    let p = c.index-removed-i.result in
    let there = got_at c.args.removed.now c.loop-i.i p (let l = c.loop-i-test.true in omega arith) c.index-removed-i.is in
    record {
      graph = c.remove.ensures.graph ∙ c.loop-i.invariant.graph;
      content = λ q. let a = times_taken c.args.removed.now c.loop-i.i p q there in let e = c.remove.ensures.content q in let i = c.loop-i.invariant.content q in omega arith;
      room = omega (arith, c.remove.ensures.room, c.loop-i.invariant.room);
    }

pub returns-clause-content : goal.returns-clause-content
returns-clause-content g c = λ q.
    let a = times_whole c.args.removed.now c.loop-i.i q (let t = c.loop-i-test.false in omega arith) in
    let i = c.loop-i.invariant.content q in
    omega arith
