use Rattle.execution.proofs.Batches.{fed_same}
use Rattle.execution.proofs.readings.is_same.Goals as goal

pub returns : goal.returns
returns g c = λ h. fed_same c.args.report.now c.args.epochs.now c.args.input c.args.epoch c.fed.result.now c.batches.result.now c.fed.ensures c.batches.ensures (c.same_batches.ensures.0 h)
