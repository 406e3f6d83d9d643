use Rattle.replay.proofs.OneRecord.{one_record}
use Rattle.replay.proofs.input_lines.batch_of.Goals as goal

pub returns-in-Ok : goal.returns-in-Ok
returns-in-Ok c = one_record c.in-Ok.batch c.args.row c.in-Ok.ensures.value
