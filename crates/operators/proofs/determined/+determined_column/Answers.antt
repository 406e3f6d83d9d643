use Rattle.std.proofs.Common.{rules}
use Rattle.expr_tree.specs.Plain.{plain_scalar}
use Rattle.expr_tree.specs.Views.{scalar_tree}
use Rattle.operators.specs.Columns.{IsInvertible}
use Rattle.operators.proofs.Undoing.{determined_left, determined_right, determined_negated}
use Rattle.operators.proofs.determined.+determined_column.Goals as goal

pub returns-then-is_invertible : goal.returns-then-is_invertible
returns-then-is_invertible t c =
    let kept : IsInvertible c.in-Binary.operator (plain_scalar (scalar_tree c.in-Binary.right.value)) = search rules in
    rw c.in-Binary.is (determined_left c.in-Binary.operator _ _ _ kept (search rules))

pub returns-then-is_invertible-2 : goal.returns-then-is_invertible-2
returns-then-is_invertible-2 t c =
    let kept : IsInvertible c.in-Binary.operator (plain_scalar (scalar_tree c.in-Binary.left.value)) = search rules in
    rw c.in-Binary.is (determined_right c.in-Binary.operator _ _ _ kept (search rules))

pub returns-in-Negate : goal.returns-in-Negate
returns-in-Negate t c = rw c.in-Negate.is (determined_negated (plain_scalar (scalar_tree c.in-Negate.inner.value)) c.determined_column-in-Negate.result (search rules))
