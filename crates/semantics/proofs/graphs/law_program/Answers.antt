use Rattle.semantics.proofs.LoweredDataflow.{typed_dataflow, typed_one_flow, lowered_inputs, lowered_input, lowered_outputs, typed_means, typed_quiet}
use Rattle.semantics.proofs.graphs.law_program.Goals as goal

pub returns-clause-dataflow : goal.returns-clause-dataflow
returns-clause-dataflow c = typed_dataflow

pub returns-clause-one_flow : goal.returns-clause-one_flow
returns-clause-one_flow c = typed_one_flow

pub returns-clause-inputs : goal.returns-clause-inputs
returns-clause-inputs c = lowered_inputs

pub returns-clause-input_vertices : goal.returns-clause-input_vertices
returns-clause-input_vertices c = lowered_input

pub returns-clause-outputs : goal.returns-clause-outputs
returns-clause-outputs c = lowered_outputs

pub returns-clause-meaning : goal.returns-clause-meaning
returns-clause-meaning c = typed_means

pub returns-clause-quiet : goal.returns-clause-quiet
returns-clause-quiet c = typed_quiet
