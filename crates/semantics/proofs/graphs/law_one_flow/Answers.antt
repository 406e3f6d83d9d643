use Rattle.semantics.proofs.RankRises.{dataflow_one_flow}
use Rattle.semantics.proofs.graphs.law_one_flow.Goals as goal

pub returns : goal.returns
returns c = dataflow_one_flow
