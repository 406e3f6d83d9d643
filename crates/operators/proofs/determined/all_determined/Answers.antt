use Rattle.std.proofs.Common.{rules, map, below_more}
use Rattle.expr_tree.specs.Plain.{plain_scalar}
use Rattle.expr_tree.specs.Views.{scalar_tree}
use Rattle.operators.specs.Columns.{IsDetermined}
use Rattle.operators.proofs.determined.all_determined.Goals as goal

pub loop-column-preserved : goal.loop-column-preserved
loop-column-preserved c =
    let has : IsDetermined c.loop-column.column (map plain_scalar (map scalar_tree c.args.scalars.now)) = search rules in
    below_more _ _ c.loop-column.invariant has
