use Rattle.std.proofs.Common.{◌≡◌, length}
use Rattle.std.specs.Vec.Iter.{into_iter_items, into_iter_len}
use Rattle.board.specs.WorkerShown.{AreWithin, HasRoom, sides_of}
use Rattle.board.specs.Steps.{delivered}
use Rattle.board.proofs.delivery.deliver.Given as goal

abbrev pub invariant-loop-letter : goal.invariant-loop-letter
invariant-loop-letter l = record {
  sides : delivered (sides_of l.workers.items) (into_iter_items l.letter-iterator) ≡ delivered (sides_of l.initial.workers.items) l.fn.letters.items;
  len : into_iter_len l.letter-iterator ≡ length (into_iter_items l.letter-iterator);
  within : AreWithin (length l.workers.items) (into_iter_items l.letter-iterator);
  room : HasRoom l.workers.items (into_iter_items l.letter-iterator);
}
