-- The three set operations, as one form.
use Rattle.std.proofs.Common.{◌≡◌, ℕ, ◌+◌, List, ◌++◌, length, refl}
use Rattle.expr_tree.specs.declared.relation.SetOperator.{SetOperator}
use Rattle.expr_tree.specs.declared.relation.SetOperator.TheVariants as operation
use Rattle.expr_tree.specs.Plain.{plain_set_operation}
use Rattle.semantics.specs.FreeNames.{free, needed}
use Rattle.semantics.specs.Lower.{Ports, lower, then_two}
use Rattle.semantics.specs.Query.{Name, Rel}
use Rattle.semantics.proofs.FittingPrograms.{Nested}
use Rattle.lowering.specs.FormKinds.{operator_kind}

-- the names that occur free in both parts
pub set_free : (o : SetOperator) (p q : Rel) → free (plain_set_operation o p q) ≡ free p ++ free q
set_free operation.Concat p q = refl
set_free operation.Except p q = refl
set_free operation.Intersect p q = refl

-- the names that are needed in both parts
pub set_needed : (o : SetOperator) (p q : Rel) → needed (plain_set_operation o p q) ≡ needed p ++ needed q
set_needed operation.Concat p q = refl
set_needed operation.Except p q = refl
set_needed operation.Intersect p q = refl

-- the loops of both parts
pub set_nested : (d : ℕ) (o : SetOperator) (p q : Rel) → Nested d (plain_set_operation o p q) → Nested d p × Nested d q
set_nested d operation.Concat p q n = n
set_nested d operation.Except p q n = n
set_nested d operation.Intersect p q n = n

-- the vertices of both parts, and one of the operator's kind
pub set_lowered : (o : SetOperator) (p q : Rel) (ports : Ports) (once : List Name) (d k : ℕ) → lower (plain_set_operation o p q) ports once d k ≡ then_two k (lower p ports once d k) (lower q ports once d (k + length (lower p ports once d k).made)) (operator_kind o) d
unfolding lower
set_lowered operation.Concat p q ports once d k = refl
set_lowered operation.Except p q ports once d k = refl
set_lowered operation.Intersect p q ports once d k = refl
