use Rattle.machine.proofs.Headline.{run_on}
use Rattle.machine.proofs.emitted.law_run_of_graph.Goals as goal

pub returns : goal.returns
returns c = run_on
