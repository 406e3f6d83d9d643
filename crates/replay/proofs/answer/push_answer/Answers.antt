use Rattle.std.proofs.Common.{◌≡◌, ◌∙◌, ◌++◌, ℕ, List, ap, sym, subst, length, map, arith}
use Rattle.std.proofs.lemmas.List.{length-map}
use Rattle.semantics.specs.Graph.{output_numbers}
use Rattle.graph.specs.Shown.{GraphValue, shown_graph, shown_names}
use Rattle.graph.specs.Views.{name_of_output, number_of_output}
use Rattle.graph.specs.declared.graph.GraphOutput.{GraphOutput}
use Rattle.collector.specs.OutputText.{label_of}
use Rattle.replay.specs.Steps.{SaysOne}
use Rattle.replay.proofs.Printed.{all_printed, nothing_printed, output_more}
use Rattle.replay.proofs.answer.push_answer.Goals as goal

pub bounds-outputs-output : goal.bounds-outputs-output
bounds-outputs-output g c =
    let same = length-map c.outputs-outputs.result.now number_of_output in
    let numbers = ap length c.outputs-outputs.ensures.numbers in
    let graph = ap (λ (x : GraphValue). length (output_numbers (shown_graph x))) c.graph.ensures in
    omega (arith, same, numbers, graph, c.output_count-output-end.ensures, c.loop-output-test.true)

pub push_output-requires : goal.push_output-requires
push_output-requires g c = omega (arith, c.output_count-output-end.ensures, c.loop-output-test.true)

pub loop-output-init : goal.loop-output-init
loop-output-init g c = nothing_printed g.V.Views.late c.args.board.now (shown_names c.args.board.now.shown.graph) c.args.epoch c.args.out.now.items

pub loop-output-preserved : goal.loop-output-preserved
loop-output-preserved g c =
    let same = length-map c.outputs-outputs.result.now number_of_output in
    let numbers = ap length c.outputs-outputs.ensures.numbers in
    let graph = ap (λ (x : GraphValue). length (output_numbers (shown_graph x))) c.graph.ensures in
    let names : map name_of_output c.outputs-outputs.result.now ≡ shown_names c.args.board.now.shown.graph = c.outputs-outputs.ensures.names ∙ ap shown_names c.graph.ensures in
    let T : GraphOutput → Type 0 = λ x. (text : List ℕ) × (c.push_output.new.out.items ≡ c.loop-output.out.items ++ text) × SaysOne g.V.Views.late c.args.board.now c.loop-output.output c.args.epoch (label_of c.are_plain-plain.result (name_of_output x)) text in
    output_more g.V.Views.late c.args.board.now c.outputs-outputs.result.now c.loop-output.output c.args.epoch c.index-outputs-output.result c.are_plain-plain.result c.args.out.now.items c.loop-output.out.items c.push_output.new.out.items names
    (omega (arith, same, numbers, graph, c.output_count-output-end.ensures, c.loop-output-test.true)) c.index-outputs-output.is c.are_plain-plain.ensures c.loop-output.invariant
    (subst T (sym c.index-outputs-output.is) c.in_ok-push_output.ensures)

pub returns : goal.returns
returns g c =
    let same = length-map c.outputs-outputs.result.now number_of_output in
    let names = length-map c.outputs-outputs.result.now name_of_output in
    let numbers = ap length c.outputs-outputs.ensures.numbers in
    let graph = ap (λ (x : GraphValue). length (output_numbers (shown_graph x))) c.graph.ensures in
    let shown = ap length (c.outputs-outputs.ensures.names ∙ ap shown_names c.graph.ensures) in
    all_printed g.V.Views.late c.args.board.now c.loop-output.output c.args.epoch c.args.out.now.items c.loop-output.out.items
    (omega (arith, same, names, numbers, graph, shown, c.output_count-output-end.ensures, c.loop-output-test.false)) c.loop-output.invariant
