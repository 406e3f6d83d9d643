use Rattle.semantics.proofs.TypedPorts.{typed_ports, typed_input, typed_outputs, typed_output}
use Rattle.semantics.proofs.FieldsKept.{dataflow_fields}
use Rattle.semantics.proofs.graphs.law_arities.Goals as goal

pub returns-clause-ports : goal.returns-clause-ports
returns-clause-ports c = typed_ports

pub returns-clause-inputs : goal.returns-clause-inputs
returns-clause-inputs c = typed_input

pub returns-clause-outputs : goal.returns-clause-outputs
returns-clause-outputs c = typed_outputs

pub returns-clause-output : goal.returns-clause-output
returns-clause-output c = typed_output

pub returns-clause-flow : goal.returns-clause-flow
returns-clause-flow c = dataflow_fields
