use Rattle.std.proofs.Common.{take}
use Rattle.writer.specs.Sources.{Each, IsPairSource}
use Rattle.writer.proofs.source.are_pairs.Given as goal

abbrev pub invariant-loop-pair : goal.invariant-loop-pair
invariant-loop-pair l = Each IsPairSource (take l.pair-index l.pairs)
