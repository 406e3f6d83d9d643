use Rattle.machine.proofs.PassedEpochs.{commit_possible}
use Rattle.machine.proofs.claims.law_commit.Goals as goal

pub returns : goal.returns
returns c = commit_possible
