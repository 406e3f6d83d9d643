use Rattle.alone.proofs.Less.{left}
use Rattle.alone.specs.Scenes.{AreFree, IsLive, Works}
use Rattle.follow.proofs.rounds.work_off.Given as goal

abbrev pub invariant-rounds : goal.invariant-rounds
invariant-rounds g l = record {
  free : AreFree l.board.shown;
  works : IsLive l.fn.board.shown → Works l.fn.board.shown l.board.shown;
}

abbrev pub decreases-rounds : goal.decreases-rounds
decreases-rounds g l = left l.board.shown
