use Rattle.std.proofs.Common.{ap, length, arith}
use Rattle.std.proofs.lemmas.List.{length-map}
use Rattle.graph.specs.Shown.{shown_graph}
use Rattle.graph.specs.Views.{number_of_output}
use Rattle.board.proofs.Outputs.{few_outputs}
use Rattle.board.proofs.state.State.output_count.Goals as goal

pub returns-clause-few : goal.returns-clause-few
returns-clause-few c =
    let same = length-map c.outputs.result.now number_of_output in
    let numbers = ap length c.outputs.ensures.numbers in
    let few = few_outputs (shown_graph c.graph-graph.result.now) in
    omega (arith, same, numbers, few, c.vertex_count-few.ensures.value, c.vertex_count-few.ensures.few)
