use Rattle.std.proofs.Common.{◌≡◌, ◌++◌}
use Rattle.std.specs.List.{flat_map}
use Rattle.rows.specs.Counts.{repeated}
use Rattle.collector.specs.OutputText.{label_of}
use Rattle.follow.specs.Entries.{row_line}
use Rattle.follow.proofs.batches.push_times.Given as goal

abbrev pub invariant-loop-time : goal.invariant-loop-time
invariant-loop-time l = l.out.items ≡ l.initial.out.items ++ flat_map (row_line l.epoch (label_of l.plain l.name)) (repeated l._time l.row)
