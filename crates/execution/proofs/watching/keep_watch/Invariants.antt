use Rattle.std.proofs.Common.{◌≡◌, ◌≤◌}
use Rattle.execution.specs.Told.{Tells}
use Rattle.execution.proofs.watching.keep_watch.Given as goal

abbrev pub invariant-loop-turn : goal.invariant-loop-turn
invariant-loop-turn g l =
    record {
      epochs : l.passed.mark ≡ l.fn.observer.passed.mark;
      records : l.received.mark ≡ l.fn.observer.received.mark;
      passed : l.watch.told.passed ≤ l.passed.seat.number;
      received : l.watch.told.received ≤ l.received.seat.number;
      tells : Tells g.W.Write.contents l.fn.observer.watch.watcher l.watch.watcher l.fn.observer.watch.told l.watch.told;
    }
