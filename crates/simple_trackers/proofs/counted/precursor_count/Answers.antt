use Rattle.std.proofs.Common.{List, take, sym, subst, arith, add-one, refl}
use Rattle.semantics.specs.Could.{Pointstamp}
use Rattle.semantics.proofs.Cases.{is_true}
use Rattle.graph.specs.Shown.{shown_graph}
use Rattle.simple_trackers.specs.Counts.{IsPrecursorCount, pointstamps}
use Rattle.progress.proofs.Contents.{got_at}
use Rattle.progress.proofs.Options.{not_true}
use Rattle.simple_trackers.proofs.CountsKept.{count_push, count_skip, stamp_got, stamps_long, take_more, take_whole}
use Rattle.simple_trackers.proofs.counted.precursor_count.Goals.{then-is_precursor, else-is_precursor}
use Rattle.simple_trackers.proofs.counted.precursor_count.Goals as goal

pub loop-i-init : goal.loop-i-init
loop-i-init c = record { number = refl; few = omega arith }

pub overflow_add-count : goal.overflow_add-count
overflow_add-count c = let f = c.loop-i.invariant.few in let l = c.loop-i-test.true in let e = c.loop-i.auto.i-end in omega arith

pub loop-i-preserved : goal.loop-i-preserved
loop-i-preserved c =
    let g = shown_graph c.args.paths.now in
    let xs = c.args.active.now in
    let x = c.index-active-i.result in
    let p = c.args.p.now in
    let i = c.loop-i.i in
    let at = stamp_got xs i x (got_at xs i x (let l = c.loop-i-test.true in omega arith) c.index-active-i.is) in
    let more = take_more (pointstamps xs) i x.pointstamp at in
    elim c.if-is_precursor.branch [
      | then-is_precursor w ↦ record {
        number = rw (more, w.count-is, add-one c.loop-i.count) (count_push g p x.pointstamp (take i (pointstamps xs)) c.loop-i.count c.loop-i.invariant.number ((rw (sym c.index-active-i.is) at c.is_precursor.ensures.0) (is_true c.is_precursor.result w.if-is_precursor.true)));
        few = let e = w.count-is in let f = c.loop-i.invariant.few in omega arith;
      }
      | else-is_precursor w ↦ record {
        number = rw (more, w.count-is) (count_skip g p x.pointstamp (take i (pointstamps xs)) c.loop-i.count c.loop-i.invariant.number (λ k. not_true c.is_precursor.result w.if-is_precursor.false ((rw (sym c.index-active-i.is) at c.is_precursor.ensures.1) k)));
        few = let e = w.count-is in let f = c.loop-i.invariant.few in omega arith;
      }
    ]

pub returns : goal.returns
returns c =
    subst (λ (l : List Pointstamp). IsPrecursorCount (shown_graph c.args.paths.now) l c.args.p.now c.loop-i.count)
    (take_whole (pointstamps c.args.active.now) c.loop-i.i (let t = c.loop-i-test.false in let e = stamps_long c.args.active.now in omega arith)) c.loop-i.invariant.number
