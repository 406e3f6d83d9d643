use Rattle.std.proofs.Common.{take}
use Rattle.table_follows.specs.Followed.{HasNoneIn}
use Rattle.table_follows.proofs.stream.stream_of.Given as goal

abbrev pub invariant-loop-place : goal.invariant-loop-place
invariant-loop-place l = record { none : HasNoneIn (take l.place l.tables) }
