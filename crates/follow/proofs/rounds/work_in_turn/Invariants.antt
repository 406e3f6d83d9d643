use Rattle.std.proofs.Common.{◌≡◌, length}
use Rattle.board.specs.Shown.{tables}
use Rattle.alone.specs.Scenes.{AreFree}
use Rattle.follow.specs.Working.{HasWorked}
use Rattle.follow.proofs.rounds.work_in_turn.Given as goal

abbrev pub invariant-loop-worker : goal.invariant-loop-worker
invariant-loop-worker g l = record {
  end_is : l.worker-end ≡ length l.fn.board.shown.sides;
  same : tables l.board.shown ≡ tables l.fn.board.shown;
  free : AreFree l.board.shown;
  worked : HasWorked l.round l.worker l.fn.board.shown l.board.shown;
}
