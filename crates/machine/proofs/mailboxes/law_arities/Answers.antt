use Rattle.machine.proofs.FieldsOfPrograms.{program_fields}
use Rattle.machine.proofs.FieldsOfMessages.{mail_fields, held_fields, absorbed_fields, emitted_fields}
use Rattle.machine.proofs.mailboxes.law_arities.Goals as goal

pub returns-clause-messages : goal.returns-clause-messages
returns-clause-messages c = mail_fields

pub returns-clause-held : goal.returns-clause-held
returns-clause-held c = held_fields

pub returns-clause-absorbed : goal.returns-clause-absorbed
returns-clause-absorbed c = absorbed_fields

pub returns-clause-emitted : goal.returns-clause-emitted
returns-clause-emitted c = emitted_fields

pub returns-clause-program : goal.returns-clause-program
returns-clause-program c = program_fields
