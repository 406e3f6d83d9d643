-- How many nodes a tree has, and that no text has the height 0.
use Rattle.std.proofs.Common.{◌≡◌, ◌≤◌, ◌↔◌, ℕ, ◌+◌, false, IsTrue, arith}
use Rattle.expr_tree.specs.Trees.{ScalarTree, CondTree, RelTree}
use Rattle.writer.specs.Scalars.{scalar_height}
use Rattle.writer.specs.Conditions.{cond_height}
use Rattle.writer.specs.Relations.{rel_height}

abbrev pub scalar_nodes : ScalarTree → ℕ
scalar_nodes (ScalarTree.literal s z) = 1
scalar_nodes (ScalarTree.column s n) = 1
scalar_nodes (ScalarTree.binary s o a b) = scalar_nodes a + scalar_nodes b + 1
scalar_nodes (ScalarTree.negate s a) = scalar_nodes a + 1

abbrev pub cond_nodes : CondTree → ℕ
cond_nodes (CondTree.compare s o a b) = 1
cond_nodes (CondTree.logical s o a b) = cond_nodes a + cond_nodes b + 1
cond_nodes (CondTree.negate s a) = cond_nodes a + 1

pub scalar_high : (t : ScalarTree) → 1 ≤ scalar_height t
scalar_high (ScalarTree.literal s z) = omega arith
scalar_high (ScalarTree.column s n) = omega arith
scalar_high (ScalarTree.binary s o a b) = omega arith
scalar_high (ScalarTree.negate s a) = omega arith

pub cond_high : (t : CondTree) → 1 ≤ cond_height t
cond_high (CondTree.compare s o a b) = omega arith
cond_high (CondTree.logical s o a b) = omega arith
cond_high (CondTree.negate s a) = omega arith

pub rel_high : (t : RelTree) → 1 ≤ rel_height t
rel_high (RelTree.named s x) = omega arith
rel_high (RelTree.select s r xs) = omega arith
rel_high (RelTree.filter s r c) = omega arith
rel_high (RelTree.set_operation s o a b) = omega arith
rel_high (RelTree.join s a b ps) = omega arith
rel_high (RelTree.group s r ks gs) = omega arith
rel_high (RelTree.distinct s r) = omega arith
rel_high (RelTree.loop s f t n u x r b) = omega arith

-- nothing fits where there is no room
pub no_room : (P : Type 0) (h room : ℕ) → room ≡ 0 → 1 ≤ h → IsTrue false ↔ (P × (h ≤ room))
no_room P h room e f = (λ z. absurd cc, λ p. let q = p.1 in absurd (omega arith))
