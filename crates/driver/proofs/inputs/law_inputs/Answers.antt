use Rattle.std.proofs.Common.{◌≤◌, arith, length}
use Rattle.graph.specs.Shown.{shown_graph}
use Rattle.driver.proofs.GraphInputs.{are_inputs, input_fields}
use Rattle.driver.proofs.inputs.law_inputs.Goals as goal

pub returns-clause-inputs : goal.returns-clause-inputs
returns-clause-inputs c =
    let few : length (shown_graph c.args.graph.now) ≤ 4096 = omega (arith, c.vertex_count.ensures.value, c.vertex_count.ensures.few) in
    are_inputs c.args.graph.now c.law_of_arities.ensures c.law_arities.ensures.inputs c.law_program.ensures.inputs few

pub returns-clause-fields : goal.returns-clause-fields
returns-clause-fields c =
    let few : length (shown_graph c.args.graph.now) ≤ 4096 = omega (arith, c.vertex_count.ensures.value, c.vertex_count.ensures.few) in
    input_fields c.args.graph.now (are_inputs c.args.graph.now c.law_of_arities.ensures c.law_arities.ensures.inputs c.law_program.ensures.inputs few) c.law_of_ports.ensures
