use Rattle.std.proofs.Common.{◌≡◌, ◌≤◌, ◌+◌, ℕ, List, length}
use Rattle.std.specs.Prelude.{false}
use Rattle.collector.specs.Watching.{inner_of}
use Rattle.follow.specs.Follows.{HasRead}
use Rattle.follow.specs.Working.{IsWorkedOff}
use Rattle.follow.specs.Scenes.{IsPositionAfter}
use Rattle.follow.proofs.following.follow_pieces.Given as goal

abbrev pub invariant-pieces : goal.invariant-pieces
invariant-pieces g l = record {
  rests : IsWorkedOff l.board.shown;
  counted : l.position.intake.line + length l.position.pending.items + l.room ≤ 18446744073709551614;
  follows : (bytes : List ℕ) × HasRead g.R.Read.remaining l.fn.reader l.reader bytes false × IsPositionAfter l.plan.first.number l.plan.graph.value l.board.shown l.position bytes (g.W.Write.contents (inner_of l.fn.writer)) (g.W.Write.contents (inner_of l.writer))
      × (l.room + length bytes ≡ 18446744073709551614);
}

abbrev pub decreases-pieces : goal.decreases-pieces
decreases-pieces g l = l.room
