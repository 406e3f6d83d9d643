use Rattle.std.proofs.Common.{◌≡◌, length}
use Rattle.rows.proofs.Walks.{DifferBelow}
use Rattle.rows.proofs.different.few_are_different.Given as goal

abbrev pub invariant-loop-place : goal.invariant-loop-place
invariant-loop-place l = DifferBelow l.rows.rows l.place × (l.place-end ≡ length l.rows.rows)
