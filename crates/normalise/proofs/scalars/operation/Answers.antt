use Rattle.std.proofs.Common.{rules, FitsSigned}
use Rattle.std.specs.Int.{w64}
use Rattle.std.proofs.lemmas.Int.{to_z-of_z}
use Rattle.normalise.proofs.Folding.{folded_literals, folded_operator}
use Rattle.semantics.specs.Normal.{IsLiteral}
use Rattle.expr_tree.specs.Plain.{plain_scalar}
use Rattle.expr_tree.specs.Views.{scalar_tree}
use Rattle.normalise.proofs.scalars.operation.Goals as goal

pub returns-in-Some-Some : goal.returns-in-Some-Some
returns-in-Some-Some g c m n =
    let fits : FitsSigned w64 c.operate.result = search rules in
    let left : FitsSigned w64 c.in-Some-Some.x = search rules in
    let right : FitsSigned w64 c.in-Some-Some.y = search rules in
    rw (to_z-of_z w64 c.operate.result fits, ← c.deref.ensures, ← c.deref-2.ensures)
    (folded_literals c.args.operator _ _ c.in-Some-Some.x c.in-Some-Some.y c.operate.result c.in-Some-Some.ensures c.in-Some-Some.ensures'
    (λ r. rw (to_z-of_z w64 c.in-Some-Some.x left, to_z-of_z w64 c.in-Some-Some.y right) at (c.operate.ensures r)))

pub returns-in_default : goal.returns-in_default
returns-in_default g c m n =
    let no : IsLiteral (plain_scalar (scalar_tree c.args.left.value)) → IsLiteral (plain_scalar (scalar_tree c.args.right.value)) → ⊥ = search rules in
    folded_operator c.args.operator _ _ no m n
