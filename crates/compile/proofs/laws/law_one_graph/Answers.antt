use Rattle.compile.proofs.OneGraph.{same_graph, large_graph}
use Rattle.compile.proofs.laws.law_one_graph.Goals as goal

pub returns-clause-same : goal.returns-clause-same
returns-clause-same c = same_graph

pub returns-clause-large : goal.returns-clause-large
returns-clause-large c = large_graph
