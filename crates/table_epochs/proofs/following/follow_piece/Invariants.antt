use Rattle.std.proofs.Common.{ℕ, List, Option, length}
use Rattle.collector.specs.Watching.{inner_of}
use Rattle.table_epochs.specs.Followed.{IsStart, Reached}
use Rattle.table_epochs.specs.Going.{HasHeader, IsGoing, Keeps, followed_by, reached_by}
use Rattle.table_epochs.proofs.following.follow_piece.Given as goal

abbrev pub invariant-epochs : goal.invariant-epochs
invariant-epochs g l = record {
  keeps : Keeps l.fn.following l.following;
  going : (start : Reached) (text : List ℕ) (before : Option (List ℕ)) → HasHeader l.fn.following → IsStart start
      → IsGoing (followed_by l.fn.following) start (reached_by l.fn.following) l.fn.splitter text l.piece before
      (g.W.Write.contents (inner_of l.fn.out))
      → IsGoing (followed_by l.fn.following) start (reached_by l.following) l.splitter text l.rest before (g.W.Write.contents (inner_of l.out));
}

abbrev pub decreases-epochs : goal.decreases-epochs
decreases-epochs g l = length l.rest
