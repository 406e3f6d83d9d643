use Rattle.std.proofs.Common.{◌≡◌, take}
use Rattle.board.specs.WorkerShown.{sides_of}
use Rattle.board.proofs.MailboxRoom.{AllRoom}
use Rattle.board.proofs.delivery.reserve_letters.Given as goal

abbrev pub invariant-loop-i : goal.invariant-loop-i
invariant-loop-i l = record {
  sides : sides_of l.workers.items ≡ sides_of l.initial.workers.items;
  room : AllRoom l.count l.workers.items (take l.i l.letters);
}
