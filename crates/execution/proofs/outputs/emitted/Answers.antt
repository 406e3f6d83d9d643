use Rattle.std.proofs.Common.{ap, length, arith}
use Rattle.std.proofs.lemmas.List.{length-map}
use Rattle.semantics.specs.Graph.{output_numbers}
use Rattle.graph.specs.Shown.{GraphValue, shown_graph}
use Rattle.graph.specs.Views.{number_of_output}
use Rattle.execution.proofs.outputs.emitted.Goals as goal

pub bounds-outputs-output : goal.bounds-outputs-output
bounds-outputs-output g c =
    let same = length-map c.outputs-outputs.result.now number_of_output in
    let numbers = ap length c.outputs-outputs.ensures.numbers in
    let graph = ap (λ (x : GraphValue). length (output_numbers (shown_graph x))) c.graph.ensures in
    omega (arith, same, numbers, graph, c.output_count-output-end.ensures, c.loop-output-test.true)

pub emitted_at_output-requires : goal.emitted_at_output-requires
emitted_at_output-requires g c = omega (arith, c.output_count-output-end.ensures, c.loop-output-test.true)
