use Rattle.std.proofs.Common.{◌∙◌, subst, sym, arith}
use Rattle.semantics.specs.Graph.{Graph}
use Rattle.semantics.specs.Could.{IsTimeAt}
use Rattle.progress.proofs.Contents.{got_at, times_got}
use Rattle.views.proofs.FirstChanges.{times_taken, times_whole}
use Rattle.views.proofs.tracked.add_all.Goals as goal

pub add-requires-clause-known : goal.add-requires-clause-known
add-requires-clause-known g c =
    let p = c.index-added-i.result in
    let there = got_at c.args.added.now c.loop-i.i p (let l = c.loop-i-test.true in omega arith) c.index-added-i.is in
    subst (λ (h : Graph). IsTimeAt h p.location p.time) (sym c.loop-i.invariant.graph) (c.requires.known p (times_got c.args.added.now c.loop-i.i p there))

pub loop-i-preserved : goal.loop-i-preserved
loop-i-preserved g c =
    let p = c.index-added-i.result in
    let there = got_at c.args.added.now c.loop-i.i p (let l = c.loop-i-test.true in omega arith) c.index-added-i.is in
    record {
      graph = c.add.ensures.graph ∙ c.loop-i.invariant.graph;
      content = λ q. let a = times_taken c.args.added.now c.loop-i.i p q there in let e = c.add.ensures.content q in let i = c.loop-i.invariant.content q in omega arith;
      room = omega (arith, c.add.ensures.room, c.loop-i.invariant.room);
    }

pub returns-clause-content : goal.returns-clause-content
returns-clause-content g c = λ q.
    let a = times_whole c.args.added.now c.loop-i.i q (let t = c.loop-i-test.false in omega arith) in
    let i = c.loop-i.invariant.content q in
    omega arith
