use Rattle.std.proofs.Common.{◌≡◌, ◌≤◌, length}
use Rattle.collector.specs.ReadEpochs.{epoch_count}
use Rattle.driver.specs.Tallies.{StaysTally}
use Rattle.driver.specs.Received.{received_of}
use Rattle.execution.specs.Single.{IsFeeding}
use Rattle.execution.specs.Told.{Tells}
use Rattle.execution.proofs.single.feed_and_work.Given as goal

abbrev pub invariant-loop-epoch : goal.invariant-loop-epoch
invariant-loop-epoch g l = record {
  end_is : l.epoch-end ≡ epoch_count l.task.epochs.now;
  within : l.epoch ≤ l.epoch-end;
  graph : l.board.shown.graph ≡ l.fn.board.shown.graph;
  one : length l.board.shown.sides ≡ 1;
  fed : IsFeeding l.board.shown l.task.inputs l.task.epochs.now l.epoch 0;
  told : l.watch.told.passed ≤ l.board.passed;
  tells : Tells g.W.Write.contents l.fn.watch.watcher l.watch.watcher l.fn.watch.told l.watch.told;
  counts : StaysTally l.fn.board.shown l.fn.tally l.board.shown l.tally;
  received : l.watch.told.received ≤ received_of l.tally;
}
