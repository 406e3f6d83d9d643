use Rattle.std.proofs.Common.{◌≡◌, [], take}
use Rattle.rows.specs.FlatRows.{joined}
use Rattle.compile.proofs.early.is_fed.Given as goal

abbrev pub invariant-loop-i : goal.invariant-loop-i
invariant-loop-i l = joined (take l.i l.batches) ≡ []
