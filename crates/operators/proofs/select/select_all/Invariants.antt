use Rattle.std.proofs.Common.{◌≡◌, ℕ, ◌<◌, map, take, length, slice_index_or}
use Rattle.rows.specs.Counts.{no_run, runs}
use Rattle.rows.proofs.Keeping.{changed}
use Rattle.expr_tree.specs.Plain.{plain_scalar}
use Rattle.expr_tree.specs.Views.{scalar_tree}
use Rattle.operators.specs.Columns.{IsInRange}
use Rattle.operators.proofs.Steps.{values_of}
use Rattle.operators.proofs.select.select_all.Given as goal

abbrev pub invariant-loop-place : goal.invariant-loop-place
invariant-loop-place l =
    (l.made.runs ≡ map (changed (values_of (map plain_scalar (map scalar_tree l.scalars)))) (take l.place (runs l.batch)))
    × (l.made.arity ≡ length l.scalars)
    × (l.place-end ≡ length (runs l.batch))
    × ((j : ℕ) → j < l.place → IsInRange (slice_index_or (runs l.batch) j no_run).row)
