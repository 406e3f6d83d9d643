use Rattle.execution.proofs.Batches.{emitted_same}
use Rattle.execution.proofs.outputs.emitted_for.Goals as goal

pub returns : goal.returns
returns g c = emitted_same c.args.report.now c.args.output c.args.epoch c.emitted.result.now c.emitted.ensures
