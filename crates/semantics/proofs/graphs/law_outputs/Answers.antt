use Rattle.semantics.proofs.OutputNumbers.{output_is_there, output_has_place, outputs_rise}
use Rattle.semantics.proofs.graphs.law_outputs.Goals as goal

pub returns-clause-output : goal.returns-clause-output
returns-clause-output c = output_is_there

pub returns-clause-all : goal.returns-clause-all
returns-clause-all c = output_has_place

pub returns-clause-in_order : goal.returns-clause-in_order
returns-clause-in_order c = outputs_rise
