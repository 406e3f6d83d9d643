use Rattle.std.proofs.Common.{sym, arith, false}
use Rattle.std.proofs.lemmas.Bool.{false≢true}
use Rattle.semantics.proofs.Cases.{is_true}
use Rattle.graph.specs.Shown.{shown_graph}
use Rattle.simple_trackers.specs.Counts.{pointstamps}
use Rattle.progress.proofs.Contents.{got_at, clear_more, all_clear}
use Rattle.progress.proofs.Options.{not_true}
use Rattle.simple_trackers.proofs.CountsKept.{stamp_got, stamps_long, occurs_got, stamp_there}
use Rattle.simple_trackers.proofs.counted.is_clear.Goals as goal

pub loop-i-init : goal.loop-i-init
loop-i-init c = λ i q l h d k. absurd (omega arith)

pub returns-then-could-clause-blocked : goal.returns-then-could-clause-blocked
returns-then-could-clause-blocked c = λ _.
    let xs = c.args.active.now in
    let x = c.index-active-i.result in
    let here = got_at xs c.loop-i.i x (let l = c.loop-i-test.true in omega arith) c.index-active-i.is in
    let k = (rw (sym c.index-active-i.is) at c.could.ensures.0) (is_true c.could.result c.if-could.true) in
    record { by = x.pointstamp; active = occurs_got xs c.loop-i.i x here (c.requires.exact.active c.loop-i.i x here); differs = λ e. absurd (false≢true e); could = k }

pub loop-i-preserved : goal.loop-i-preserved
loop-i-preserved c =
    let xs = c.args.active.now in
    let x = c.index-active-i.result in
    let here = got_at xs c.loop-i.i x (let l = c.loop-i-test.true in omega arith) c.index-active-i.is in
    clear_more (shown_graph c.args.paths.now) (pointstamps xs) c.args.p.now x.pointstamp false c.loop-i.i c.loop-i.invariant (stamp_got xs c.loop-i.i x here)
    (λ k. not_true c.could.result c.if-could.false ((rw (sym c.index-active-i.is) at c.could.ensures.1) k.1))

pub returns-clause-clear : goal.returns-clause-clear
returns-clause-clear c = λ _ q h.
    let xs = c.args.active.now in
    all_clear (shown_graph c.args.paths.now) (pointstamps xs) c.args.p.now false c.loop-i.i (let t = c.loop-i-test.false in let e = stamps_long xs in omega arith) c.loop-i.invariant q (stamp_there xs q h)
