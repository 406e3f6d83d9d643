use Rattle.std.proofs.Common.{take}
use Rattle.writer.specs.Sources.{Each, IsAggSource}
use Rattle.writer.proofs.source.are_aggregates.Given as goal

abbrev pub invariant-loop-aggregate : goal.invariant-loop-aggregate
invariant-loop-aggregate l = Each IsAggSource (take l.aggregate-index l.aggregates)
