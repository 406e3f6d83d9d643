use Rattle.std.proofs.Common.{◌<◌, ◌≡◌, ℕ, length}
use Rattle.semantics.specs.Graph.{output_numbers}
use Rattle.graph.specs.Shown.{shown_graph}
use Rattle.board.specs.Promises.{HasPassed}
use Rattle.follow.proofs.reporting.has_passed.Given as goal

abbrev pub invariant-loop-output : goal.invariant-loop-output
invariant-loop-output g l = record {
  end_is : l.output-end ≡ length (output_numbers (shown_graph l.board.shown.graph));
  passed : (k : ℕ) → k < l.output → HasPassed l.board.shown k l.epoch;
}
