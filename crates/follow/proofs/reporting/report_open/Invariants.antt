use Rattle.std.proofs.Common.{◌≡◌, length}
use Rattle.semantics.specs.Graph.{output_numbers}
use Rattle.graph.specs.Shown.{shown_graph}
use Rattle.follow.specs.Scenes.{IsWithin}
use Rattle.follow.specs.Steps.{ReportsOutputs}
use Rattle.follow.proofs.reporting.report_open.Given as goal

abbrev pub invariant-loop-output : goal.invariant-loop-output
invariant-loop-output g l = record {
  end_is : l.output-end ≡ length (output_numbers (shown_graph l.board.shown.graph));
  within : IsWithin l.board.shown l.reporting;
  reports : ReportsOutputs l.numbering.first.number l.board.shown l.numbering.base l.output l.fn.reporting l.reporting l.fn.out.items l.out.items;
}
