use Rattle.std.proofs.Common.{◌∙◌, ap, sym, arith, Some}
use Rattle.semantics.specs.Could.{Pointstamp}
use Rattle.semantics.proofs.Cases.{is_true}
use Rattle.simple_trackers.specs.Counts.{pointstamps}
use Rattle.progress.proofs.Contents.{got_at, times_none}
use Rattle.progress.proofs.Options.{not_true}
use Rattle.simple_trackers.proofs.CountsKept.{none_more, occurs_none, stamp_got, stamps_long}
use Rattle.simple_trackers.proofs.counted.place_of.Goals as goal

pub loop-i-init : goal.loop-i-init
loop-i-init c = λ i q l h e. absurd (omega arith)

pub returns-then-same-clause-some : goal.returns-then-same-clause-some
returns-then-same-clause-some c =
    let xs = c.args.active.now in
    let x = c.index-active-i.result in
    let here = got_at xs c.loop-i.i x (let l = c.loop-i-test.true in omega arith) c.index-active-i.is in
    stamp_got xs c.loop-i.i x here ∙ ap (λ (y : Pointstamp). Some y) ((rw (sym c.index-active-i.is) at c.same.ensures.0) (is_true c.same.result c.if-same.true))

pub loop-i-preserved : goal.loop-i-preserved
loop-i-preserved c =
    let xs = c.args.active.now in
    let x = c.index-active-i.result in
    let here = got_at xs c.loop-i.i x (let l = c.loop-i-test.true in omega arith) c.index-active-i.is in
    none_more (pointstamps xs) c.args.p.now x.pointstamp c.loop-i.i c.loop-i.invariant (stamp_got xs c.loop-i.i x here) (λ e. not_true c.same.result c.if-same.false ((rw (sym c.index-active-i.is) at c.same.ensures.1) e))

pub returns-clause-none : goal.returns-clause-none
returns-clause-none c =
    let xs = c.args.active.now in
    occurs_none c.args.p.now xs (times_none c.args.p.now (pointstamps xs) c.loop-i.i (let t = c.loop-i-test.false in let e = stamps_long xs in omega arith) c.loop-i.invariant)
