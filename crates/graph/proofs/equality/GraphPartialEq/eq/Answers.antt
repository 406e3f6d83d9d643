use Rattle.graph.specs.EqualityLaws.{graph_tested}
use Rattle.graph.proofs.equality.GraphPartialEq.eq.Goals as goal

pub returns-clause-decides : goal.returns-clause-decides
returns-clause-decides c = graph_tested c.equal_graphs.result c.args.self.now c.args.other.now c.equal_graphs.ensures
