use Rattle.machine.proofs.EmittedFlows.{emitted_part, emitted_whole}
use Rattle.machine.proofs.emitted.law_emitted.Goals as goal

pub returns-clause-part : goal.returns-clause-part
returns-clause-part c = emitted_part

pub returns-clause-whole : goal.returns-clause-whole
returns-clause-whole c = emitted_whole
