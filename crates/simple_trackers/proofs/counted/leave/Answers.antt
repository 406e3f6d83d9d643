use Rattle.graph.specs.Shown.{shown_graph}
use Rattle.simple_trackers.proofs.CountsKept.{got_stamp, removed_some, exact_leaves, occurs_leaves}
use Rattle.simple_trackers.proofs.counted.leave.Goals as goal

pub remove_precursor-requires-clause-counted : goal.remove_precursor-requires-clause-counted
remove_precursor-requires-clause-counted c =
    rw c.remove.ensures.items (removed_some (shown_graph c.args.paths.now) c.args.p.now c.args.active.now.items c.args.place c.requires.exact c.requires.there)

pub returns-clause-exact : goal.returns-clause-exact
returns-clause-exact c =
    exact_leaves (shown_graph c.args.paths.now) c.args.p.now c.args.active.now.items c.remove_precursor.new.active.items c.args.place c.requires.exact c.requires.there
    (rw c.remove.ensures.items at c.remove_precursor.ensures.counted)

pub returns-clause-occurs : goal.returns-clause-occurs
returns-clause-occurs c =
    let xs = c.args.active.now.items in
    let s = got_stamp xs c.args.place c.args.p.now c.requires.there in
    occurs_leaves (shown_graph c.args.paths.now) c.args.p.now xs c.remove_precursor.new.active.items c.args.place s.0 s.1 s.2 (c.requires.once s.0 s.1)
    (rw c.remove.ensures.items at c.remove_precursor.ensures.counted)
