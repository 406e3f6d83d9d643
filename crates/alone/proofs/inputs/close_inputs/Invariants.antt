use Rattle.std.proofs.Common.{◌≡◌, ◌≤◌}
use Rattle.semantics.specs.Graph.{input_count}
use Rattle.graph.specs.Shown.{shown_graph}
use Rattle.driver.specs.Tallies.{Rows, StaysTally}
use Rattle.alone.specs.Scenes.{Closes}
use Rattle.alone.proofs.inputs.close_inputs.Given as goal

abbrev pub invariant-loop-input : goal.invariant-loop-input
invariant-loop-input g l = record {
  end_is : l.input-end ≡ input_count (shown_graph l.fn.board.shown.graph);
  within : l.input ≤ l.input-end;
  closes : Closes l.fn.board.shown l.board.shown l.input;
  rises : l.fn.board.passed ≤ l.board.passed;
  counts : (rows : Rows) → StaysTally l.fn.board.shown rows l.board.shown rows;
}
