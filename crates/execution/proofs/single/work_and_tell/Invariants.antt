use Rattle.std.proofs.Common.{◌≡◌, ◌≤◌}
use Rattle.driver.specs.Tallies.{StaysTally}
use Rattle.driver.specs.Received.{received_of}
use Rattle.alone.specs.Moves.{Moves}
use Rattle.alone.specs.Rests.{IsFree}
use Rattle.execution.specs.Told.{Tells}
use Rattle.execution.proofs.single.work_and_tell.Given as goal

abbrev pub invariant-looks : goal.invariant-looks
invariant-looks g l =
    record {
      moves : Moves l.fn.board.shown l.board.shown;
      free : IsFree l.fn.board.shown 0 → IsFree l.board.shown 0;
      rises : l.fn.board.passed ≤ l.board.passed;
      counts : StaysTally l.fn.board.shown l.fn.tally l.board.shown l.tally;
      received : l.watch.told.received ≤ received_of l.tally;
      passed : l.watch.told.passed ≡ l.fn.watch.told.passed;
      tells : Tells g.W.Write.contents l.fn.watch.watcher l.watch.watcher l.fn.watch.told l.watch.told;
    }
