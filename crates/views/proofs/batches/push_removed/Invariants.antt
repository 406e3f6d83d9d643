use Rattle.std.proofs.Common.{◌≡◌, ◌+◌, ◌++◌, take}
use Rattle.std.specs.Prelude.{map, vec_len, vec_capacity}
use Rattle.views.specs.declared.queue.Change.TheVariants.{Remove}
use Rattle.views.proofs.batches.push_removed.Given as goal

abbrev pub invariant-loop-i : goal.invariant-loop-i
invariant-loop-i l = record {
  items : l.changes.items ≡ l.fn.changes.items ++ map Remove (take l.i l.fn.removed);
  len : vec_len l.changes ≡ vec_len l.fn.changes + l.i;
  capacity : vec_capacity l.changes ≡ vec_capacity l.fn.changes;
}
