use Rattle.std.proofs.Common.{◌≡◌, length}
use Rattle.collector.proofs.TracksJoined.{TracksJoined}
use Rattle.collector.proofs.epochs.Epochs.append.Given as goal

abbrev pub invariant-loop-track : goal.invariant-loop-track
invariant-loop-track l = record {
  count : l.self.count ≡ l.initial.self.count;
  tracks : TracksJoined l.initial.self.tracks.items l.initial.tracks.items l.self.tracks.items l.tracks.items l.begun;
}

abbrev pub decreases-loop-track : goal.decreases-loop-track
decreases-loop-track l = length l.tracks.items
