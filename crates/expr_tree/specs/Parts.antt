-- Trees taken apart, and what the loops that let them go go by.
use Rattle.std.specs.Prelude.{ℕ, ◌+◌, ◌*◌}
use Rattle.expr_tree.specs.declared.scalar.Scalar.{Scalar}
use Rattle.expr_tree.specs.declared.scalar.Scalar.TheVariants.{Literal, Column, Binary', Negate'}
use Rattle.expr_tree.specs.declared.scalar.Scalar.TheViews as whole
use Rattle.expr_tree.specs.declared.scalar.ScalarParts.{ScalarParts}
use Rattle.expr_tree.specs.declared.scalar.ScalarParts.TheVariants as parts
use Rattle.expr_tree.specs.declared.condition.Cond.{Cond}
use Rattle.expr_tree.specs.declared.condition.Cond.TheVariants as cond
use Rattle.expr_tree.specs.declared.condition.Cond.TheViews as whole-cond
use Rattle.expr_tree.specs.declared.condition.CondParts.{CondParts}
use Rattle.expr_tree.specs.declared.condition.CondParts.TheVariants as cond-parts
use Rattle.expr_tree.specs.declared.relation.Rel.{Rel}
use Rattle.expr_tree.specs.declared.relation.Rel.TheVariants as rel
use Rattle.expr_tree.specs.declared.relation.Rel.TheViews as whole-rel
use Rattle.expr_tree.specs.declared.relation.RelParts.{RelParts}
use Rattle.expr_tree.specs.declared.relation.RelParts.TheVariants as rel-parts

-- the scalar whose parts these are
abbrev pub whole_scalar : {A : Type 0} → ScalarParts A → Scalar A
whole_scalar (parts.Literal s v) = Literal s v
whole_scalar (parts.Column s c) = Column s c
whole_scalar (parts.Binary s o left right) = whole.Binary s o left right
whole_scalar (parts.Negate s inner) = whole.Negate s inner

-- a scalar with no scalar in it
abbrev pub IsScalarLeaf : {A : Type 0} → Scalar A → Type 0
IsScalarLeaf (Literal s v) = Unit {0}
IsScalarLeaf (Column s c) = Unit {0}
IsScalarLeaf (Binary' s o p a q b) = ⊥
IsScalarLeaf (Negate' s p a) = ⊥

-- the number of nodes, those of a left operand twice: less with each node that goes, and where a left operand becomes smaller
abbrev pub scalar_weight : {A : Type 0} → Scalar A → ℕ
scalar_weight (Literal s v) = 1
scalar_weight (Column s c) = 1
scalar_weight (Binary' s o p a q b) = 2 * scalar_weight a + scalar_weight b + 1
scalar_weight (Negate' s p a) = scalar_weight a + 1

-- the condition whose parts these are
abbrev pub whole_cond : {A : Type 0} → CondParts A → Cond A
whole_cond (cond-parts.Compare s o left right) = cond.Compare s o left right
whole_cond (cond-parts.Logical s o left right) = whole-cond.Logical s o left right
whole_cond (cond-parts.Not s inner) = whole-cond.Not s inner

-- a condition with no condition in it
abbrev pub IsCondLeaf : {A : Type 0} → Cond A → Type 0
IsCondLeaf (cond.Compare s o a b) = Unit {0}
IsCondLeaf (cond.Logical' s o p a q b) = ⊥
IsCondLeaf (cond.Not' s p a) = ⊥

-- the number of nodes as of scalars
abbrev pub cond_weight : {A : Type 0} → Cond A → ℕ
cond_weight (cond.Compare s o a b) = 1
cond_weight (cond.Logical' s o p a q b) = 2 * cond_weight a + cond_weight b + 1
cond_weight (cond.Not' s p a) = cond_weight a + 1

-- the relation whose parts these are
abbrev pub whole_rel : {A : Type 0} → RelParts A → Rel A
whole_rel (rel-parts.Named s n) = rel.Named s n
whole_rel (rel-parts.Select s of ts) = whole-rel.Select s of ts
whole_rel (rel-parts.Where s of c) = whole-rel.Where s of c
whole_rel (rel-parts.SetOperation s o left right) = whole-rel.SetOperation s o left right
whole_rel (rel-parts.Join s left right ps) = whole-rel.Join s left right ps
whole_rel (rel-parts.Group s of ks gs) = whole-rel.Group s of ks gs
whole_rel (rel-parts.Distinct s of) = whole-rel.Distinct s of
whole_rel (rel-parts.Loop s f t n u x start body) = whole-rel.Loop s f t n u x start body

-- a relation with no relation in it
abbrev pub IsRelLeaf : {A : Type 0} → Rel A → Type 0
IsRelLeaf (rel.Named s n) = Unit {0}
IsRelLeaf (rel.Select' s p r ts) = ⊥
IsRelLeaf (rel.Where' s p r c) = ⊥
IsRelLeaf (rel.SetOperation' s o p a q b) = ⊥
IsRelLeaf (rel.Join' s p a q b ps) = ⊥
IsRelLeaf (rel.Group' s p r ks gs) = ⊥
IsRelLeaf (rel.Distinct' s p r) = ⊥
IsRelLeaf (rel.Loop' s f t n u x p r q b) = ⊥

-- the number of nodes as of scalars; a loop's start stands on the left
abbrev pub rel_weight : {A : Type 0} → Rel A → ℕ
rel_weight (rel.Named s n) = 1
rel_weight (rel.Select' s p r ts) = rel_weight r + 1
rel_weight (rel.Where' s p r c) = rel_weight r + 1
rel_weight (rel.SetOperation' s o p a q b) = 2 * rel_weight a + rel_weight b + 1
rel_weight (rel.Join' s p a q b ps) = 2 * rel_weight a + rel_weight b + 1
rel_weight (rel.Group' s p r ks gs) = rel_weight r + 1
rel_weight (rel.Distinct' s p r) = rel_weight r + 1
rel_weight (rel.Loop' s f t n u x p r q b) = 2 * rel_weight r + rel_weight b + 1
