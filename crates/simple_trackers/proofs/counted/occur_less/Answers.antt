use Rattle.std.proofs.Common.{◌-◌, refl, arith}
use Rattle.progress.proofs.Contents.{got_at}
use Rattle.simple_trackers.proofs.CountsKept.{exact_set, occurs_less}
use Rattle.simple_trackers.proofs.counted.occur_less.Goals as goal

pub returns-clause-exact : goal.returns-clause-exact
returns-clause-exact c = λ g e.
    let xs = c.args.active.now.items in
    let x = c.index_mut-counted.result.now in
    let here = got_at xs c.args.place x c.requires.there c.index_mut-counted.ensures.value in
    let l = c.requires.again x here in
    exact_set g xs c.args.place x (record { pointstamp = x.pointstamp; occurrences = x.occurrences - 1; precursors = x.precursors }) here refl refl (omega arith) e

pub returns-clause-occurs : goal.returns-clause-occurs
returns-clause-occurs c = λ p at.
    let xs = c.args.active.now.items in
    let x = c.index_mut-counted.result.now in
    let here = got_at xs c.args.place x c.requires.there c.index_mut-counted.ensures.value in
    let l = c.requires.again x here in
    occurs_less p xs c.args.place x (record { pointstamp = x.pointstamp; occurrences = x.occurrences - 1; precursors = x.precursors }) here at refl (omega arith)
