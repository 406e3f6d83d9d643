use Rattle.graph.specs.Shown.{shown_graph}
use Rattle.simple_trackers.proofs.counted.take.Goals as goal

pub returns-then-index-gt1-clause-exact : goal.returns-then-index-gt1-clause-exact
returns-then-index-gt1-clause-exact c = c.occur_less.ensures.exact (shown_graph c.args.paths.now) c.requires.exact
