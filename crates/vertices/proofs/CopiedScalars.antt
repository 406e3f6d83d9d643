-- A copy of scalars is as long as they are.
use Rattle.std.proofs.Common.{◌≡◌, List, map, length, sym, ap, ◌∙◌, Global}
use Rattle.std.proofs.lemmas.List.{length-map}
use Rattle.expr_tree.specs.Views.{scalar_tree}
use Rattle.expr_tree.specs.declared.scalar.Scalar.{Scalar}

pub as_long : (copy scalars : List (Scalar Global)) → map scalar_tree copy ≡ map scalar_tree scalars → length copy ≡ length scalars
as_long copy scalars e = sym (length-map copy scalar_tree) ∙ ap length e ∙ length-map scalars scalar_tree
