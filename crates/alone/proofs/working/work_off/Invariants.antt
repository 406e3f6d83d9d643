use Rattle.std.proofs.Common.{◌≡◌, ◌≤◌}
use Rattle.driver.specs.Tallies.{StaysTally}
use Rattle.driver.specs.Received.{received_of}
use Rattle.alone.specs.Moves.{Moves}
use Rattle.alone.specs.Rests.{IsFree}
use Rattle.alone.proofs.Less.{left}
use Rattle.alone.proofs.working.work_off.Given as goal

abbrev pub invariant-events : goal.invariant-events
invariant-events g l =
    record {
      graph : l.board.shown.graph ≡ l.fn.board.shown.graph;
      rises : l.fn.board.passed ≤ l.board.passed;
      free : IsFree l.fn.board.shown l.worker → IsFree l.board.shown l.worker;
      counts : StaysTally l.fn.board.shown l.fn.tally l.board.shown l.tally;
      received : received_of l.fn.tally ≤ received_of l.tally;
      moves : Moves l.fn.board.shown l.board.shown;
    }

abbrev pub decreases-events : goal.decreases-events
decreases-events g l = left l.board.shown
