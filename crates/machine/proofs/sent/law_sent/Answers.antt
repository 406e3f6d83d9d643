use Rattle.machine.proofs.Tracking.{sent_part, sent_whole}
use Rattle.machine.proofs.sent.law_sent.Goals as goal

pub returns-clause-part : goal.returns-clause-part
returns-clause-part c = sent_part

pub returns-clause-whole : goal.returns-clause-whole
returns-clause-whole c = sent_whole
