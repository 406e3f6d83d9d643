use Rattle.std.proofs.Common.{arith}
use Rattle.graph.specs.Shown.{shown_graph}
use Rattle.simple_trackers.proofs.CountsKept.{all_many}
use Rattle.simple_trackers.proofs.counted.put.Goals as goal

pub enter-requires-clause-room : goal.enter-requires-clause-room
enter-requires-clause-room c =
    let l = all_many c.args.active.now.items c.requires.exact.active in
    let o = c.args.active.now.ok.0 in
    let r = c.requires.room in
    omega arith

pub returns-in-Some-clause-exact : goal.returns-in-Some-clause-exact
returns-in-Some-clause-exact c = c.occur_again.ensures.exact (shown_graph c.args.paths.now) c.requires.exact
