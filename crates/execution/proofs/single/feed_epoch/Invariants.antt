use Rattle.std.proofs.Common.{◌≤◌}
use Rattle.driver.specs.Tallies.{Rows, StaysTally}
use Rattle.alone.specs.Scenes.{Grows}
use Rattle.execution.specs.Single.{IsFeeding}
use Rattle.execution.proofs.single.feed_epoch.Given as goal

abbrev pub invariant-loop-input : goal.invariant-loop-input
invariant-loop-input g l = record {
  within : l.input ≤ l.task.inputs;
  fed : IsFeeding l.board.shown l.task.inputs l.task.epochs.now l.epoch l.input;
  grows : Grows l.fn.board.shown l.board.shown;
  rises : l.fn.board.passed ≤ l.board.passed;
  counts : (rows : Rows) → StaysTally l.fn.board.shown rows l.board.shown rows;
}
