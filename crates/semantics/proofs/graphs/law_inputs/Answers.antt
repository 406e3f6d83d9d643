use Rattle.semantics.proofs.InputNumbers.{input_is_there}
use Rattle.semantics.proofs.graphs.law_inputs.Goals as goal

pub returns-clause-input : goal.returns-clause-input
returns-clause-input c = input_is_there

pub returns-clause-all : goal.returns-clause-all
returns-clause-all c = λ g flows v l e. flows.shaped.inputs_first v l e
