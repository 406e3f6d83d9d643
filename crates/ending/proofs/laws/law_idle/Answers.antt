use Rattle.ending.proofs.Idle.{idle_passed, idle_drained}
use Rattle.ending.proofs.IdlePrograms.{idle_whole}
use Rattle.ending.proofs.laws.law_idle.Goals as goal

pub returns-clause-passed : goal.returns-clause-passed
returns-clause-passed c = idle_passed

pub returns-clause-drained : goal.returns-clause-drained
returns-clause-drained c = idle_drained

pub returns-clause-whole : goal.returns-clause-whole
returns-clause-whole c = idle_whole
