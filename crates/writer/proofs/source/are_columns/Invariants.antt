use Rattle.std.proofs.Common.{take}
use Rattle.writer.specs.Sources.{Each, IsColumnSource}
use Rattle.writer.proofs.source.are_columns.Given as goal

abbrev pub invariant-loop-column : goal.invariant-loop-column
invariant-loop-column l = Each IsColumnSource (take l.column-index l.columns)
