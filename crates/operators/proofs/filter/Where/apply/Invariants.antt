use Rattle.std.proofs.Common.{◌≡◌, take, filter, length}
use Rattle.rows.specs.FlatRows.{arity_of}
use Rattle.rows.specs.Counts.{runs}
use Rattle.semantics.specs.Meaning.{holds}
use Rattle.expr_tree.specs.Plain.{plain_cond}
use Rattle.expr_tree.specs.Views.{cond_tree}
use Rattle.operators.proofs.filter.Where.apply.Given as goal

abbrev pub invariant-loop-place : goal.invariant-loop-place
invariant-loop-place l =
    (l.rows.runs ≡ filter (λ d. holds (plain_cond (cond_tree l.self.condition)) d.row) (take l.place (runs l.batch)))
    × (l.rows.arity ≡ arity_of l.batch)
    × (l.place-end ≡ length (runs l.batch))
