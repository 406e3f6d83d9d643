use Rattle.std.proofs.Common.{◌≤◌, ◌-◌, length}
use Rattle.std.specs.Io.KnownBytes.{Consumes}
use Rattle.collector.specs.Watching.{Hands, inner_of}
use Rattle.collector.proofs.bytes.read_at_most.Given as goal

abbrev pub invariant-pieces : goal.invariant-pieces
invariant-pieces g l = record {
  read : Consumes (g.R.Read.remaining (inner_of l.fn.reader)) (g.R.Read.remaining (inner_of l.reader)) l.bytes.items;
  hands : Hands l.fn.reader l.reader l.bytes.items;
  within : length l.bytes.items ≤ l.limit;
}

abbrev pub decreases-pieces : goal.decreases-pieces
decreases-pieces g l = l.limit - length l.bytes.items
