use Rattle.std.proofs.Common.{map}
use Rattle.expr_tree.specs.Plain.{plain_scalar}
use Rattle.expr_tree.specs.Views.{scalar_tree}
use Rattle.operators.specs.Columns.{AllDetermined}
use Rattle.operators.proofs.determined.all_determined.Given as goal

abbrev pub invariant-loop-column : goal.invariant-loop-column
invariant-loop-column l = AllDetermined l.column (map plain_scalar (map scalar_tree l.scalars))
