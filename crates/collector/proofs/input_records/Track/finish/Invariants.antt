use Rattle.std.proofs.Common.{map}
use Rattle.rows.specs.FlatRows.{joined}
use Rattle.collector.specs.Piles.{AreAlike, piled}
use Rattle.collector.proofs.input_records.Track.finish.Given as goal

abbrev pub invariant-loop-lists : goal.invariant-loop-lists
invariant-loop-lists l = AreAlike (map (λ v. joined v.items) l.kept.items) (map (λ v. piled v.items) l.yielded)
