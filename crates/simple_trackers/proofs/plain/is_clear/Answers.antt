use Rattle.std.proofs.Common.{arith}
use Rattle.semantics.proofs.Cases.{is_true}
use Rattle.graph.specs.Shown.{shown_graph}
use Rattle.progress.proofs.Options.{not_true}
use Rattle.progress.proofs.Contents.{got_at, times_got, clear_more, all_clear}
use Rattle.simple_trackers.proofs.plain.is_clear.Goals as goal

pub blocks-requires-clause-from : goal.blocks-requires-clause-from
blocks-requires-clause-from c = c.requires.all c.index-active-i.result (times_got c.args.active.now c.loop-i.i c.index-active-i.result (got_at c.args.active.now c.loop-i.i c.index-active-i.result (let l = c.loop-i-test.true in omega arith) c.index-active-i.is))

pub loop-i-preserved : goal.loop-i-preserved
loop-i-preserved c =
    clear_more (shown_graph c.args.paths.now) c.args.active.now c.args.p.now c.index-active-i.result c.args.other c.loop-i.i c.loop-i.invariant (got_at c.args.active.now c.loop-i.i c.index-active-i.result (let l = c.loop-i-test.true in omega arith) c.index-active-i.is)
    (λ k. not_true c.blocks-in-loop-i.result c.if-blocks.false (c.blocks-in-loop-i.ensures.1 k))

pub returns-then-blocks-clause-blocked : goal.returns-then-blocks-clause-blocked
returns-then-blocks-clause-blocked c = λ _.
    let k = c.blocks-in-loop-i.ensures.0 (is_true c.blocks-in-loop-i.result c.if-blocks.true) in
    record { by = c.index-active-i.result; active = times_got c.args.active.now c.loop-i.i c.index-active-i.result (got_at c.args.active.now c.loop-i.i c.index-active-i.result (let l = c.loop-i-test.true in omega arith) c.index-active-i.is); differs = k.0; could = k.1 }

pub returns-clause-clear : goal.returns-clause-clear
returns-clause-clear c = λ _. all_clear (shown_graph c.args.paths.now) c.args.active.now c.args.p.now c.args.other c.loop-i.i (let t = c.loop-i-test.false in omega arith) c.loop-i.invariant
