use Rattle.std.proofs.Common.{◌++◌, ℕ, List, Option}
use Rattle.collector.specs.Watching.{inner_of}
use Rattle.csv_epochs.specs.declared.epoch.Epoch as epoch
use Rattle.table_epochs.specs.Followed.{IsStart, Reached}
use Rattle.table_epochs.specs.Going.{HasHeader, HasWritten, Keeps, followed_by, reached_by}
use Rattle.table_epochs.proofs.following.follow_last.Given as goal

abbrev pub invariant-loop-epoch : goal.invariant-loop-epoch
invariant-loop-epoch g l = record {
  keeps : Keeps l.fn.following l.following;
  written : (start : Reached) (done : List epoch.Epoch) (before : Option (List ℕ)) → HasHeader l.fn.following → IsStart start
      → HasWritten (followed_by l.fn.following) start (reached_by l.fn.following) done before (g.W.Write.contents (inner_of l.fn.out))
      → HasWritten (followed_by l.fn.following) start (reached_by l.following) (done ++ l.yielded) before (g.W.Write.contents (inner_of l.out));
}
