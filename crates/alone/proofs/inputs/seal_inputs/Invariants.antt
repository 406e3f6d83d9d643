use Rattle.std.proofs.Common.{◌≤◌}
use Rattle.driver.specs.Tallies.{Rows, StaysTally}
use Rattle.alone.specs.Scenes.{Seals}
use Rattle.alone.proofs.inputs.seal_inputs.Given as goal

abbrev pub invariant-loop-input : goal.invariant-loop-input
invariant-loop-input g l = record {
  seals : Seals l.fn.board.shown l.board.shown l.input;
  rises : l.fn.board.passed ≤ l.board.passed;
  counts : (rows : Rows) → StaysTally l.fn.board.shown rows l.board.shown rows;
}
