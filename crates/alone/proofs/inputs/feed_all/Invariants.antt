use Rattle.std.proofs.Common.{◌≤◌, take}
use Rattle.rows.specs.FlatRows.{joined}
use Rattle.driver.specs.Tallies.{Rows, StaysTally}
use Rattle.alone.specs.Scenes.{FeedsAll}
use Rattle.alone.proofs.inputs.feed_all.Given as goal

abbrev pub invariant-loop-batch : goal.invariant-loop-batch
invariant-loop-batch g l = record {
  feeds : FeedsAll l.fn.board.shown l.board.shown l.input (joined (take l.batch-index l.batches));
  rises : l.fn.board.passed ≤ l.board.passed;
  counts : (rows : Rows) → StaysTally l.fn.board.shown rows l.board.shown rows;
}
