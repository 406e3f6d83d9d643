use Rattle.std.proofs.Common.{rules}
use Rattle.std.proofs.lemmas.Int.{to_z-of_z}
use mir.Syntax.{w64}
use mir.Val.{SFits}
use Rattle.expr_tree.specs.Plain.{plain_scalar}
use Rattle.expr_tree.specs.Views.{scalar_tree}
use Rattle.sql.proofs.Operations.{binary_appended}
use Rattle.sql.proofs.scalar.+push_scalar.Goals as goal

pub returns-in-Literal : goal.returns-in-Literal
returns-in-Literal g t c =
    let f : SFits w64 c.in-Literal.number = search rules in
    rw c.in-Literal.is (rw (to_z-of_z w64 c.in-Literal.number f) at c.push_literal.ensures)

pub returns-in_ok-push_scalar-in-Binary-2 : goal.returns-in_ok-push_scalar-in-Binary-2
returns-in_ok-push_scalar-in-Binary-2 g t c =
    rw c.in-Binary.is (binary_appended c.push_close.result c.args.form c.in-Binary.operator (plain_scalar (scalar_tree c.in-Binary.left.value)) (plain_scalar (scalar_tree c.in-Binary.right.value))
    c.args.text.now.items _ _ _ _ _ c.in_ok-push_open-in-Binary.ensures (rw c.deref.ensures at c.in_ok-push_scalar-in-Binary.ensures)
    c.in_ok-push_between-in-Binary.ensures (rw c.deref-in-Binary.ensures at c.in_ok-push_scalar-in-Binary-2.ensures) c.push_close.ensures)
