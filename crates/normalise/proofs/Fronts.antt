-- A list of scalars by its first one.
use Rattle.std.proofs.Common.{◌≡◌, ◌<◌, ◌-◌, List, [], ◌∷◌, length, drop, take, get_or, map, sym, ap, arith, ◌∙◌}
use Rattle.std.proofs.lemmas.Grind.{common_steps}
use Rattle.expr_tree.specs.declared.scalar.Scalar.{Scalar}
use Rattle.expr_tree.specs.Plain.{plain_scalar}
use Rattle.expr_tree.specs.Views.{scalar_tree}

-- all but the first
pub rest : {X : Type 0} (x : X) (xs : List X) → take (length (x ∷ xs) - 1) xs ≡ xs
rest x xs = grind (arith, common_steps)

-- the first, and then the others
pub plain-front : {A : Type 0} (xs : List (Scalar A)) (x : Scalar A) → 0 < length xs → x ≡ get_or xs 0 x → map plain_scalar (map scalar_tree xs) ≡ plain_scalar (scalar_tree x) ∷ map plain_scalar (map scalar_tree (take (length xs - 1) (drop 1 xs)))
plain-front [] x h e = absurd (omega arith)
plain-front (y ∷ ys) x h e =
    ap (λ v. plain_scalar (scalar_tree v) ∷ map plain_scalar (map scalar_tree ys)) (sym e) ∙ ap (λ zs. plain_scalar (scalar_tree x) ∷ map plain_scalar (map scalar_tree zs)) (sym (rest y ys))
