use Rattle.machine.proofs.InTransit.{messages, requests, held}
use Rattle.machine.proofs.mailboxes.law_in_transit.Goals as goal

pub returns-clause-messages : goal.returns-clause-messages
returns-clause-messages c = messages

pub returns-clause-requests : goal.returns-clause-requests
returns-clause-requests c = requests

pub returns-clause-held : goal.returns-clause-held
returns-clause-held c = held
