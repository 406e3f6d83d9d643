-- The plain tree that a tree in memory shows, whatever its allocator.
use Rattle.std.specs.Prelude.{map}
use Rattle.expr_tree.specs.declared.scalar.Scalar.{Scalar}
use Rattle.expr_tree.specs.declared.scalar.Scalar.TheVariants.{Literal, Column, Binary', Negate'}
use Rattle.expr_tree.specs.declared.condition.Cond.{Cond}
use Rattle.expr_tree.specs.declared.condition.Cond.TheVariants.{Compare, Logical', Not'}
use Rattle.expr_tree.specs.declared.relation.Rel.{Rel}
use Rattle.expr_tree.specs.declared.relation.Rel.TheVariants as rel
use Rattle.expr_tree.specs.declared.program.Let.{Let}
use Rattle.expr_tree.specs.declared.program.Output.{Output}
use Rattle.expr_tree.specs.declared.program.Program.{Program}
use Rattle.expr_tree.specs.Trees.{ScalarTree, CondTree, RelTree, LetTree, OutputTree, ProgramTree}

-- of a scalar
abbrev pub scalar_tree : {A : Type 0} → Scalar A → ScalarTree
scalar_tree (Literal s v) = ScalarTree.literal s v
scalar_tree (Column s c) = ScalarTree.column s c
scalar_tree (Binary' s o p a q b) = ScalarTree.binary s o (scalar_tree a) (scalar_tree b)
scalar_tree (Negate' s p a) = ScalarTree.negate s (scalar_tree a)

-- of a condition
abbrev pub cond_tree : {A : Type 0} → Cond A → CondTree
cond_tree (Compare s o a b) = CondTree.compare s o (scalar_tree a) (scalar_tree b)
cond_tree (Logical' s o p a q b) = CondTree.logical s o (cond_tree a) (cond_tree b)
cond_tree (Not' s p a) = CondTree.negate s (cond_tree a)

-- of a relation
abbrev pub rel_tree : {A : Type 0} → Rel A → RelTree
rel_tree (rel.Named s n) = RelTree.named s n
rel_tree (rel.Select' s p r ts) = RelTree.select s (rel_tree r) (map scalar_tree ts.items)
rel_tree (rel.Where' s p r c) = RelTree.filter s (rel_tree r) (cond_tree c)
rel_tree (rel.SetOperation' s o p a q b) = RelTree.set_operation s o (rel_tree a) (rel_tree b)
rel_tree (rel.Join' s p a q b ps) = RelTree.join s (rel_tree a) (rel_tree b) ps.items
rel_tree (rel.Group' s p r ks gs) = RelTree.group s (rel_tree r) ks.items gs.items
rel_tree (rel.Distinct' s p r) = RelTree.distinct s (rel_tree r)
rel_tree (rel.Loop' s f t n u x p r q b) = RelTree.loop s f t n u x (rel_tree r) (rel_tree b)

-- of a named relation
abbrev pub let_tree : {A : Type 0} → Let A → LetTree
let_tree l = record { name_span = l.name_span; name = l.name; relation = rel_tree l.relation.value }

-- of an output
abbrev pub output_tree : {A : Type 0} → Output A → OutputTree
output_tree o = record { keyword_span = o.keyword_span; name_span = o.name_span; name = o.name; relation = rel_tree o.relation.value }

-- of a program
abbrev pub program_tree : {A : Type 0} → Program A → ProgramTree
program_tree p = record { inputs = p.inputs.items; lets = map let_tree p.lets.items; outputs = map output_tree p.outputs.items }
