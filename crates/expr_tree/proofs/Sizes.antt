-- Sizes and depths of lists with one more item, and of groups; the relations in a tree.
use Rattle.std.proofs.Common.{◌≡◌, ℕ, suc, ◌+◌, ◌≤◌, max, List, [], ◌∷◌, ◌++◌, arith}
use Rattle.expr_tree.specs.Trees.{RelTree}
use Rattle.semantics.specs.Query.{Scalar, Rel, Agg, Let, Output}
use Rattle.semantics.specs.Size.{scalar_size, scalars_size, rel_size, lets_size, outputs_size, scalar_depth, scalars_depth, aggs_depth, rel_depth, lets_depth, outputs_depth}

-- the size of scalars with one more
pub scalars_size-push : (ss : List Scalar) (s : Scalar) → scalars_size (ss ++ s ∷ []) ≡ scalars_size ss + scalar_size s
scalars_size-push [] s = omega arith
scalars_size-push (t ∷ ts) s = omega (arith, scalars_size-push ts s)

-- the size of lets with one more
pub lets_size-push : (ls : List Let) (l : Let) → lets_size (ls ++ l ∷ []) ≡ suc (lets_size ls + rel_size l.value)
lets_size-push [] l = omega arith
lets_size-push (m ∷ ms) l = omega (arith, lets_size-push ms l)

-- the depth of scalars with one more
pub scalars_depth-push : (ss : List Scalar) (s : Scalar) → scalars_depth (ss ++ s ∷ []) ≡ max (scalars_depth ss) (scalar_depth s)
scalars_depth-push [] s = omega arith
scalars_depth-push (t ∷ ts) s = omega (arith, scalars_depth-push ts s)

-- the depth of lets with one more
pub lets_depth-push : (ls : List Let) (l : Let) → lets_depth (ls ++ l ∷ []) ≡ max (lets_depth ls) (rel_depth l.value)
lets_depth-push [] l = omega arith
lets_depth-push (m ∷ ms) l = omega (arith, lets_depth-push ms l)

-- the size of outputs with one more
pub outputs_size-push : (os : List Output) (o : Output) → outputs_size (os ++ o ∷ []) ≡ outputs_size os + rel_size o.value
outputs_size-push [] o = omega arith
outputs_size-push (p ∷ ps) o = omega (arith, outputs_size-push ps o)

-- the depth of outputs with one more
pub outputs_depth-push : (os : List Output) (o : Output) → outputs_depth (os ++ o ∷ []) ≡ max (outputs_depth os) (rel_depth o.value)
outputs_depth-push [] o = omega arith
outputs_depth-push (p ∷ ps) o = omega (arith, outputs_depth-push ps o)

-- a relation is a node at least
pub rel_depth-positive : (r : Rel) → 1 ≤ rel_depth r
rel_depth-positive (Rel.named x) = omega arith
rel_depth-positive (Rel.select r ss) = omega arith
rel_depth-positive (Rel.filter r c) = omega arith
rel_depth-positive (Rel.concat p q) = omega arith
rel_depth-positive (Rel.join p q ps) = omega arith
rel_depth-positive (Rel.group r ks as') = omega arith
rel_depth-positive (Rel.distinct r) = omega arith
rel_depth-positive (Rel.except p q) = omega arith
rel_depth-positive (Rel.intersect p q) = omega arith
rel_depth-positive (Rel.loop l n x r b) = omega arith

-- aggregates are at most 1 deep
pub aggs_depth-le : (gs : List Agg) → aggs_depth gs ≤ 1
aggs_depth-le [] = omega arith
aggs_depth-le (g ∷ gs) = omega arith

-- the number of relations in a tree
abbrev pub rel_nodes : RelTree → ℕ
rel_nodes (RelTree.named s x) = 1
rel_nodes (RelTree.select s r xs) = rel_nodes r + 1
rel_nodes (RelTree.filter s r c) = rel_nodes r + 1
rel_nodes (RelTree.set_operation s o a b) = rel_nodes a + rel_nodes b + 1
rel_nodes (RelTree.join s a b ps) = rel_nodes a + rel_nodes b + 1
rel_nodes (RelTree.group s r ks gs) = rel_nodes r + 1
rel_nodes (RelTree.distinct s r) = rel_nodes r + 1
rel_nodes (RelTree.loop s f t n u x r b) = rel_nodes r + rel_nodes b + 1
