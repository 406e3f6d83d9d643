use Rattle.std.proofs.Common.{◌≡◌, ◌++◌, length, take}
use Rattle.std.specs.List.{flat_map}
use Rattle.rows.specs.Counts.{expanded, runs}
use Rattle.collector.specs.OutputText.{label_of}
use Rattle.follow.specs.Entries.{row_line}
use Rattle.follow.proofs.batches.push_batch.Given as goal

abbrev pub invariant-loop-place : goal.invariant-loop-place
invariant-loop-place l = record {
  end_is : l.place-end ≡ length (runs l.batch);
  lines : l.out.items ≡ l.initial.out.items ++ flat_map (row_line l.epoch (label_of l.plain l.name)) (expanded (take l.place (runs l.batch)));
}
