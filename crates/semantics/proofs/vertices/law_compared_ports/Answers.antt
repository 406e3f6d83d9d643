use Rattle.semantics.proofs.ShardsSend.{difference_sent, common_gained}
use Rattle.semantics.proofs.vertices.law_compared_ports.Goals as goal

pub returns-clause-except : goal.returns-clause-except
returns-clause-except c = difference_sent

pub returns-clause-intersect : goal.returns-clause-intersect
returns-clause-intersect c = common_gained
