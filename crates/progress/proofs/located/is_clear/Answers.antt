use Rattle.std.proofs.Common.{arith}
use Rattle.graph.specs.Locations.{location_of}
use Rattle.graph.specs.Shown.{shown_graph}
use Rattle.progress.proofs.Places.{clear_more_at, all_clear_at}
use Rattle.progress.proofs.located.is_clear.Goals as goal

pub loop-i-preserved : goal.loop-i-preserved
loop-i-preserved c =
    clear_more_at (shown_graph c.args.paths.now) c.args.edges.now c.args.vertices.now c.args.listed.now (location_of c.location_at-location.result) c.args.p.now c.args.other c.loop-i.i c.loop-i.invariant c.location_at-location.ensures
    (c.is_clear_at.ensures.clear c.if-not-is_clear_at.false)

pub returns-clause-clear : goal.returns-clause-clear
returns-clause-clear c = λ _. all_clear_at (shown_graph c.args.paths.now) c.args.edges.now c.args.vertices.now c.args.listed.now c.args.p.now c.args.other c.loop-i.i c.requires.kept (let t = c.loop-i-test.false in omega arith) c.loop-i.invariant
