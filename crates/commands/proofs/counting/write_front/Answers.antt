use Rattle.commands.proofs.Reporting.{whole_or_front}
use Rattle.commands.proofs.counting.write_front.Goals as goal

pub returns : goal.returns
returns g c = whole_or_front c.takes_all-whole.result _ _ c.args.text.now c.takes_all-whole.ensures.whole c.takes_all-whole.ensures.front
