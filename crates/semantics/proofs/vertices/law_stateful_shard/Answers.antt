use Rattle.semantics.proofs.ShardsSend.{gained, gained_alone}
use Rattle.semantics.proofs.vertices.law_stateful_shard.Goals as goal

pub returns-clause-gained : goal.returns-clause-gained
returns-clause-gained c = gained

pub returns-clause-alone : goal.returns-clause-alone
returns-clause-alone c = gained_alone
