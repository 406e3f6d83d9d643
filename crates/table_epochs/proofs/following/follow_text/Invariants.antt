use Rattle.std.proofs.Common.{ℕ, List, []}
use Rattle.std.specs.Io.KnownBytes.{Consumes}
use Rattle.collector.specs.Watching.{inner_of}
use Rattle.table_epochs.specs.Followed.{IsStart}
use Rattle.table_epochs.specs.Going.{HasHeader, IsGoing, Keeps, followed_by, reached_by}
use Rattle.table_epochs.proofs.following.follow_text.Given as goal

abbrev pub invariant-pieces : goal.invariant-pieces
invariant-pieces g l = record {
  keeps : Keeps l.fn.following l.following;
  going : HasHeader l.fn.following → IsStart (reached_by l.fn.following)
      → (bytes : List ℕ) × Consumes (g.T.Read.remaining (inner_of l.fn.text)) (g.T.Read.remaining (inner_of l.text)) bytes
      × IsGoing (followed_by l.fn.following) (reached_by l.fn.following) (reached_by l.following) l.splitter bytes []
      (g.W.Write.contents (inner_of l.fn.out)) (g.W.Write.contents (inner_of l.out));
}

-- how many bytes may still be read
abbrev pub decreases-pieces : goal.decreases-pieces
decreases-pieces g l = l.room
