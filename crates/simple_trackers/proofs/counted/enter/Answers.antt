use Rattle.std.proofs.Common.{refl, arith}
use Rattle.graph.specs.Shown.{shown_graph}
use Rattle.simple_trackers.specs.Counts.{pointstamps}
use Rattle.simple_trackers.proofs.CountsKept.{count_few, stamps_long, exact_enters, occurs_enters}
use Rattle.simple_trackers.proofs.counted.enter.Goals as goal

pub add_precursor-requires-clause-room : goal.add_precursor-requires-clause-room
add_precursor-requires-clause-room c = λ i d h.
    let xs = c.args.active.now.items in
    let n = count_few (shown_graph c.args.paths.now) d.pointstamp (pointstamps xs) d.precursors (c.requires.exact.precursors i d h) in
    let l = stamps_long xs in
    let o = c.args.active.now.ok.0 in
    let s = c.args.active.now.small in
    let r = c.requires.room in
    omega arith

pub returns-clause-exact : goal.returns-clause-exact
returns-clause-exact c =
    let g = shown_graph c.args.paths.now in
    let xs = c.args.active.now.items in
    let p = c.args.p.now in
    let n = c.precursor_count-precursors.result in
    let number = rw c.deref.ensures.value at c.precursor_count-precursors.ensures in
    rw c.push_reserved.ensures.items
    (exact_enters g p xs c.add_precursor.new.active.items (record { pointstamp = c.copied.result; occurrences = 1; precursors = n }) c.requires.known c.requires.exact c.requires.fresh c.add_precursor.ensures.counted c.copied.ensures (omega arith) number)

pub returns-clause-occurs : goal.returns-clause-occurs
returns-clause-occurs c =
    let g = shown_graph c.args.paths.now in
    let xs = c.args.active.now.items in
    let p = c.args.p.now in
    let n = c.precursor_count-precursors.result in
    rw c.push_reserved.ensures.items
    (occurs_enters g p xs c.add_precursor.new.active.items (record { pointstamp = c.copied.result; occurrences = 1; precursors = n }) c.add_precursor.ensures.counted c.copied.ensures refl)
