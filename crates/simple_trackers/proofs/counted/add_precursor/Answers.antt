use Rattle.std.proofs.Common.{arith}
use Rattle.graph.specs.Shown.{shown_graph}
use Rattle.simple_trackers.specs.Counts.{CountsPrecursor}
use Rattle.progress.proofs.Contents.{got_at}
use Rattle.simple_trackers.proofs.CountsKept.{none_done, long_done, done_more, all_added}
use Rattle.simple_trackers.proofs.counted.add_precursor.Goals as goal

pub loop-i-init : goal.loop-i-init
loop-i-init c = none_done (CountsPrecursor (shown_graph c.args.paths.now) c.args.p.now) c.args.active.now.items

pub count_precursor-requires-clause-to : goal.count_precursor-requires-clause-to
count_precursor-requires-clause-to c =
    let old = c.args.active.now.items in
    let now = c.loop-i.active.items in
    let x = c.index_mut-counted.result.now in
    let here = got_at now c.loop-i.i x (let l = c.loop-i-test.true in let e = c.len-i-end.ensures in let f = long_done (CountsPrecursor (shown_graph c.args.paths.now) c.args.p.now) old now c.loop-i.i c.loop-i.invariant in let k = c.args.active.now.ok.0 in omega arith) c.index_mut-counted.ensures.value in
    let was = c.loop-i.invariant.rest c.loop-i.i x (omega arith) here in
    c.requires.all c.loop-i.i x was

pub count_precursor-requires-clause-room : goal.count_precursor-requires-clause-room
count_precursor-requires-clause-room c =
    let old = c.args.active.now.items in
    let now = c.loop-i.active.items in
    let x = c.index_mut-counted.result.now in
    let here = got_at now c.loop-i.i x (let l = c.loop-i-test.true in let e = c.len-i-end.ensures in let f = long_done (CountsPrecursor (shown_graph c.args.paths.now) c.args.p.now) old now c.loop-i.i c.loop-i.invariant in let k = c.args.active.now.ok.0 in omega arith) c.index_mut-counted.ensures.value in
    let was = c.loop-i.invariant.rest c.loop-i.i x (omega arith) here in
    c.requires.room c.loop-i.i x was

pub loop-i-preserved : goal.loop-i-preserved
loop-i-preserved c =
    let old = c.args.active.now.items in
    let now = c.loop-i.active.items in
    let x = c.index_mut-counted.result.now in
    let here = got_at now c.loop-i.i x (let l = c.loop-i-test.true in let e = c.len-i-end.ensures in let f = long_done (CountsPrecursor (shown_graph c.args.paths.now) c.args.p.now) old now c.loop-i.i c.loop-i.invariant in let k = c.args.active.now.ok.0 in omega arith) c.index_mut-counted.ensures.value in
    let was = c.loop-i.invariant.rest c.loop-i.i x (omega arith) here in
    done_more (CountsPrecursor (shown_graph c.args.paths.now) c.args.p.now) old now c.loop-i.i x c.count_precursor.new.counted c.loop-i.invariant here c.count_precursor.ensures.pointstamp c.count_precursor.ensures

pub returns-clause-counted : goal.returns-clause-counted
returns-clause-counted c =
    all_added (shown_graph c.args.paths.now) c.args.p.now c.args.active.now.items c.loop-i.active.items c.loop-i.i
    (let t = c.loop-i-test.false in let e = c.len-i-end.ensures in let k = c.args.active.now.ok.0 in omega arith) c.loop-i.invariant
