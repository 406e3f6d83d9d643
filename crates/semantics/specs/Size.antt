-- The size and the depth of a query's tree.
use Rattle.std.specs.Prelude.{ℕ, suc, ◌+◌, max, List, [], ◌∷◌, length}
use Rattle.semantics.specs.Query.{Scalar, Cond, Agg, Rel, Let, Output, Program}

-- ---- size: the number of relation, condition, scalar and aggregate nodes, plus one for each let

-- of a scalar
abbrev pub scalar_size : Scalar → ℕ
scalar_size (Scalar.column c) = 1
scalar_size (Scalar.literal z) = 1
scalar_size (Scalar.plus s t) = suc (scalar_size s + scalar_size t)
scalar_size (Scalar.minus s t) = suc (scalar_size s + scalar_size t)
scalar_size (Scalar.times s t) = suc (scalar_size s + scalar_size t)
scalar_size (Scalar.negation s) = suc (scalar_size s)

-- of scalars together
abbrev pub scalars_size : List Scalar → ℕ
scalars_size [] = 0
scalars_size (s ∷ ss) = scalar_size s + scalars_size ss

-- of a condition
abbrev pub cond_size : Cond → ℕ
cond_size (Cond.compare c s t) = suc (scalar_size s + scalar_size t)
cond_size (Cond.conjunction c d) = suc (cond_size c + cond_size d)
cond_size (Cond.disjunction c d) = suc (cond_size c + cond_size d)
cond_size (Cond.negation c) = suc (cond_size c)

-- of a relation; the columns of a join or of a key don't count as nodes
abbrev pub rel_size : Rel → ℕ
rel_size (Rel.named x) = 1
rel_size (Rel.select r ss) = suc (rel_size r + scalars_size ss)
rel_size (Rel.filter r c) = suc (rel_size r + cond_size c)
rel_size (Rel.concat p q) = suc (rel_size p + rel_size q)
rel_size (Rel.join p q ps) = suc (rel_size p + rel_size q)
rel_size (Rel.group r ks as') = suc (rel_size r + length as')
rel_size (Rel.distinct r) = suc (rel_size r)
rel_size (Rel.except p q) = suc (rel_size p + rel_size q)
rel_size (Rel.intersect p q) = suc (rel_size p + rel_size q)
rel_size (Rel.loop l n x r b) = suc (rel_size r + rel_size b)

-- of lets together
abbrev pub lets_size : List Let → ℕ
lets_size [] = 0
lets_size (a ∷ as') = suc (rel_size a.value + lets_size as')

-- of outputs together; an output itself doesn't count as a node
abbrev pub outputs_size : List Output → ℕ
outputs_size [] = 0
outputs_size (o ∷ os) = rel_size o.value + outputs_size os

-- of a program
abbrev pub program_size : Program → ℕ
program_size p = lets_size p.lets + outputs_size p.outputs

-- ---- depth: the greatest number of nodes on a way down, each a child of the one before

-- of a scalar
abbrev pub scalar_depth : Scalar → ℕ
scalar_depth (Scalar.column c) = 1
scalar_depth (Scalar.literal z) = 1
scalar_depth (Scalar.plus s t) = suc (max (scalar_depth s) (scalar_depth t))
scalar_depth (Scalar.minus s t) = suc (max (scalar_depth s) (scalar_depth t))
scalar_depth (Scalar.times s t) = suc (max (scalar_depth s) (scalar_depth t))
scalar_depth (Scalar.negation s) = suc (scalar_depth s)

-- of the deepest of scalars
abbrev pub scalars_depth : List Scalar → ℕ
scalars_depth [] = 0
scalars_depth (s ∷ ss) = max (scalar_depth s) (scalars_depth ss)

-- of a condition
abbrev pub cond_depth : Cond → ℕ
cond_depth (Cond.compare c s t) = suc (max (scalar_depth s) (scalar_depth t))
cond_depth (Cond.conjunction c d) = suc (max (cond_depth c) (cond_depth d))
cond_depth (Cond.disjunction c d) = suc (max (cond_depth c) (cond_depth d))
cond_depth (Cond.negation c) = suc (cond_depth c)

-- of aggregates, each of which is a node without children
abbrev pub aggs_depth : List Agg → ℕ
aggs_depth [] = 0
aggs_depth (a ∷ as') = 1

-- of a relation
abbrev pub rel_depth : Rel → ℕ
rel_depth (Rel.named x) = 1
rel_depth (Rel.select r ss) = suc (max (rel_depth r) (scalars_depth ss))
rel_depth (Rel.filter r c) = suc (max (rel_depth r) (cond_depth c))
rel_depth (Rel.concat p q) = suc (max (rel_depth p) (rel_depth q))
rel_depth (Rel.join p q ps) = suc (max (rel_depth p) (rel_depth q))
rel_depth (Rel.group r ks as') = suc (max (rel_depth r) (aggs_depth as'))
rel_depth (Rel.distinct r) = suc (rel_depth r)
rel_depth (Rel.except p q) = suc (max (rel_depth p) (rel_depth q))
rel_depth (Rel.intersect p q) = suc (max (rel_depth p) (rel_depth q))
rel_depth (Rel.loop l n x r b) = suc (max (rel_depth r) (rel_depth b))

-- of the deepest of lets
abbrev pub lets_depth : List Let → ℕ
lets_depth [] = 0
lets_depth (a ∷ as') = max (rel_depth a.value) (lets_depth as')

-- of the deepest of outputs
abbrev pub outputs_depth : List Output → ℕ
outputs_depth [] = 0
outputs_depth (o ∷ os) = max (rel_depth o.value) (outputs_depth os)

-- of a program
abbrev pub program_depth : Program → ℕ
program_depth p = max (lets_depth p.lets) (outputs_depth p.outputs)
