use Rattle.std.proofs.Common.{◌≡◌, ◌*◌, length}
use Rattle.rows.proofs.Owners.{AreOwned}
use Rattle.rows.proofs.different.doubtful.Given as goal

abbrev pub invariant-loop-place : goal.invariant-loop-place
invariant-loop-place l =
    AreOwned l.rows.rows l.place l.owners.items l.doubtful.rows
    × (length l.owners.items ≡ length l.rows.rows * 4)
    × (l.doubtful.arity ≡ l.rows.arity)
    × (l.place-end ≡ length l.rows.rows)
