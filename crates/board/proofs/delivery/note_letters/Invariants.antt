use Rattle.std.proofs.Common.{◌≡◌, ◌+◌, length, take, vec_capacity}
use Rattle.semantics.specs.Could.{Pointstamp}
use Rattle.views.specs.Content.{times_in}
use Rattle.board.specs.WorkerShown.{letters_count}
use Rattle.board.proofs.delivery.note_letters.Given as goal

abbrev pub invariant-loop-letter : goal.invariant-loop-letter
invariant-loop-letter l = record {
  added : (q : Pointstamp) → times_in l.added.items q ≡ letters_count q (take l.letter-index l.letters) + times_in l.fn.added.items q;
  long : length l.added.items ≡ l.letter-index + length l.fn.added.items;
  capacity : vec_capacity l.added ≡ vec_capacity l.fn.added;
}
