use Rattle.std.proofs.Common.{◌∙◌, ◌<◌, arith, refl, length, ap, subst, sym}
use Rattle.std.proofs.lemmas.List.{length-map}
use Rattle.semantics.specs.Graph.{output_numbers}
use Rattle.graph.specs.Shown.{GraphValue, shown_graph, shown_names}
use Rattle.graph.specs.Views.{name_of_output, number_of_output}
use Rattle.graph.specs.declared.graph.GraphOutput.{GraphOutput}
use Rattle.collector.specs.OutputText.{label_of}
use Rattle.follow.specs.Steps.{ReportsOutput}
use Rattle.follow.proofs.Calls.{label_at}
use Rattle.follow.proofs.Reported.{more_outputs, nothing_reported, within_output}
use Rattle.follow.proofs.reporting.report_open.Goals as goal

pub loop-output-init : goal.loop-output-init
loop-output-init g c = record { end_is = c.output_count-output-end.ensures; within = c.requires.within; reports = record { done = refl; room = refl; more = λ records entries text h. nothing_reported c.args.numbering.first.number c.args.board.now.shown c.args.numbering.base c.args.reporting.now records entries text c.args.out.now.items h } }

pub bounds-outputs-output : goal.bounds-outputs-output
bounds-outputs-output g c =
    let same = length-map c.outputs-outputs.result.now number_of_output in
    let numbers = ap length c.outputs-outputs.ensures.numbers in
    let graph = ap (λ (x : GraphValue). length (output_numbers (shown_graph x))) c.graph.ensures in
    omega (arith, same, numbers, graph, c.loop-output.invariant.end_is, c.loop-output-test.true)

pub report_output-requires-clause-there : goal.report_output-requires-clause-there
report_output-requires-clause-there g c = omega (arith, c.loop-output.invariant.end_is, c.loop-output-test.true)

pub report_output-requires-clause-room : goal.report_output-requires-clause-room
report_output-requires-clause-room g c = c.loop-output.invariant.reports.room ∙ c.requires.room

pub report_output-requires-clause-within : goal.report_output-requires-clause-within
report_output-requires-clause-within g c = c.loop-output.invariant.within c.loop-output.output

pub report_output-requires-clause-few : goal.report_output-requires-clause-few
report_output-requires-clause-few g c = let d = c.loop-output.invariant.reports.done in omega (arith, d, c.requires.few)

pub loop-output-preserved : goal.loop-output-preserved
loop-output-preserved g c =
    let same = length-map c.outputs-outputs.result.now number_of_output in
    let numbers = ap length c.outputs-outputs.ensures.numbers in
    let graph = ap (λ (x : GraphValue). length (output_numbers (shown_graph x))) c.graph.ensures in
    let names = c.outputs-outputs.ensures.names ∙ ap shown_names c.graph.ensures in
    let within : c.loop-output.output < length c.outputs-outputs.result.now = omega (arith, same, numbers, graph, c.loop-output.invariant.end_is, c.loop-output-test.true) in
    let there : c.loop-output.output < length (shown_names c.args.board.now.shown.graph) = omega (arith, within, length-map c.outputs-outputs.result.now name_of_output, ap length names) in
    let label = label_at c.args.board.now.shown.graph c.outputs-outputs.result.now c.loop-output.output c.index-outputs-output.result c.are_plain-plain.result names within c.index-outputs-output.is c.are_plain-plain.ensures in
    let T : GraphOutput → Type 0 = λ x. ReportsOutput c.args.numbering.first.number c.args.board.now.shown c.args.numbering.base c.loop-output.reporting c.report_output.new.reporting c.loop-output.output (label_of c.are_plain-plain.result (name_of_output x)) c.loop-output.out.items c.report_output.new.out.items in
    let one : T c.index-outputs-output.result = subst T (sym c.index-outputs-output.is) c.in_ok-report_output.ensures in
    let before = c.loop-output.invariant.reports in
    record {
      end_is = c.loop-output.invariant.end_is;
      within = within_output c.args.numbering.first.number c.args.board.now.shown c.args.numbering.base c.loop-output.reporting c.report_output.new.reporting c.loop-output.output _ c.loop-output.out.items c.report_output.new.out.items one c.loop-output.invariant.within;
      reports = record {
        done = one.done ∙ before.done;
        room = one.room ∙ before.room;
        more = more_outputs c.args.numbering.first.number c.args.board.now.shown c.args.numbering.base c.args.reporting.now c.loop-output.reporting c.report_output.new.reporting c.loop-output.output (label_of c.are_plain-plain.result (name_of_output c.index-outputs-output.result)) c.args.out.now.items c.loop-output.out.items c.report_output.new.out.items before.done before.more one there label;
      };
    }

pub returns : goal.returns
returns g c = (c.loop-output.output, λ k place. omega (arith, place, c.loop-output.invariant.end_is, c.loop-output-test.false), c.loop-output.invariant.reports)
