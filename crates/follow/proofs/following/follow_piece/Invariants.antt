use Rattle.std.proofs.Common.{◌≤◌, ◌+◌, ◌++◌, ℕ, List, length}
use Rattle.std.specs.Prelude.{Option}
use Rattle.collector.specs.Watching.{inner_of}
use Rattle.follow.specs.Scenes.{IsWritten, IsWrittenSo, IsPositionAfter}
use Rattle.follow.proofs.following.follow_piece.Given as goal

abbrev pub invariant-boards : goal.invariant-boards
invariant-boards g l = record {
  known : IsWrittenSo l.plan.first.number l.plan.graph.value l.board.shown l.position (g.W.Write.contents (inner_of l.writer));
  counted : l.position.intake.line + length l.position.pending.items ≤ l.fn.position.intake.line + length l.fn.position.pending.items + length l.piece;
  written : (bytes : List ℕ) (start : Option (List ℕ)) → IsPositionAfter l.plan.first.number l.plan.graph.value l.fn.board.shown l.fn.position bytes start (g.W.Write.contents (inner_of l.fn.writer))
      → IsWritten l.plan.first.number l.plan.graph.value l.board.shown l.position.base l.position.intake l.position.reporting (bytes ++ l.piece) l.position.pending.items start (g.W.Write.contents (inner_of l.writer));
}

abbrev pub decreases-boards : goal.decreases-boards
decreases-boards g l = length l.position.pending.items
