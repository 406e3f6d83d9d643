-- The query of a tree, without the places of its nodes.
use Rattle.std.specs.Prelude.{map}
use Rattle.expr_tree.specs.declared.scalar.Operator.{Operator}
use Rattle.expr_tree.specs.declared.scalar.Operator.TheVariants as operator
use Rattle.expr_tree.specs.declared.condition.Comparison as declared_comparison
use Rattle.expr_tree.specs.declared.condition.Comparison.TheVariants as comparison
use Rattle.expr_tree.specs.declared.condition.Connective.{Connective}
use Rattle.expr_tree.specs.declared.condition.Connective.TheVariants as connective
use Rattle.expr_tree.specs.declared.relation.Pair as declared_pair
use Rattle.expr_tree.specs.declared.relation.Agg as declared_agg
use Rattle.expr_tree.specs.declared.relation.Agg.TheVariants as agg
use Rattle.expr_tree.specs.declared.relation.SetOperator.{SetOperator}
use Rattle.expr_tree.specs.declared.relation.SetOperator.TheVariants as operation
use Rattle.expr_tree.specs.declared.relation.LoopForm.{LoopForm}
use Rattle.expr_tree.specs.declared.relation.LoopForm.TheVariants as form
use Rattle.expr_tree.specs.declared.program.Input as declared_input
use Rattle.expr_tree.specs.Trees.{ScalarTree, CondTree, RelTree, LetTree, OutputTree, ProgramTree}
use Rattle.semantics.specs.Query.{Scalar, Comparison, Cond, Agg, Pair, Loop, Rel, Input, Let, Output, Program}

-- two scalars under an operator
abbrev pub plain_operator : Operator → Scalar → Scalar → Scalar
plain_operator operator.Add a b = Scalar.plus a b
plain_operator operator.Subtract a b = Scalar.minus a b
plain_operator operator.Multiply a b = Scalar.times a b

-- of a scalar
abbrev pub plain_scalar : ScalarTree → Scalar
plain_scalar (ScalarTree.literal s z) = Scalar.literal z
plain_scalar (ScalarTree.column s c) = Scalar.column c
plain_scalar (ScalarTree.binary s o a b) = plain_operator o (plain_scalar a) (plain_scalar b)
plain_scalar (ScalarTree.negate s a) = Scalar.negation (plain_scalar a)

-- of a comparison
abbrev pub plain_comparison : declared_comparison.Comparison → Comparison
plain_comparison comparison.Equal = Comparison.equal
plain_comparison comparison.NotEqual = Comparison.not_equal
plain_comparison comparison.Less = Comparison.less
plain_comparison comparison.AtMost = Comparison.at_most
plain_comparison comparison.Greater = Comparison.greater
plain_comparison comparison.AtLeast = Comparison.at_least

-- two conditions under a connective
abbrev pub plain_connective : Connective → Cond → Cond → Cond
plain_connective connective.And c d = Cond.conjunction c d
plain_connective connective.Or c d = Cond.disjunction c d

-- of a condition
abbrev pub plain_cond : CondTree → Cond
plain_cond (CondTree.compare s o a b) = Cond.compare (plain_comparison o) (plain_scalar a) (plain_scalar b)
plain_cond (CondTree.logical s o c d) = plain_connective o (plain_cond c) (plain_cond d)
plain_cond (CondTree.negate s c) = Cond.negation (plain_cond c)

-- of a pair of columns
abbrev pub plain_pair : declared_pair.Pair → Pair
plain_pair p = record { left = p.left.index; right = p.right.index }

-- of an aggregate
abbrev pub plain_agg : declared_agg.Agg → Agg
plain_agg (agg.Count s) = Agg.count
plain_agg (agg.Sum s c) = Agg.sum c.index
plain_agg (agg.Min s c) = Agg.min c.index
plain_agg (agg.Max s c) = Agg.max c.index

-- two relations under a set operator
abbrev pub plain_set_operation : SetOperator → Rel → Rel → Rel
plain_set_operation operation.Concat p q = Rel.concat p q
plain_set_operation operation.Except p q = Rel.except p q
plain_set_operation operation.Intersect p q = Rel.intersect p q

-- the form of a loop
abbrev pub plain_form : LoopForm → Loop
plain_form form.Iterate = Loop.iterate
plain_form form.Closure = Loop.closure

-- of a relation
abbrev pub plain_rel : RelTree → Rel
plain_rel (RelTree.named s x) = Rel.named x
plain_rel (RelTree.select s r ts) = Rel.select (plain_rel r) (map plain_scalar ts)
plain_rel (RelTree.filter s r c) = Rel.filter (plain_rel r) (plain_cond c)
plain_rel (RelTree.set_operation s o p q) = plain_set_operation o (plain_rel p) (plain_rel q)
plain_rel (RelTree.join s p q xs) = Rel.join (plain_rel p) (plain_rel q) (map plain_pair xs)
plain_rel (RelTree.group s r ks gs) = Rel.group (plain_rel r) (map (λ k. k.index) ks) (map plain_agg gs)
plain_rel (RelTree.distinct s r) = Rel.distinct (plain_rel r)
plain_rel (RelTree.loop s f t n u x r b) = Rel.loop (plain_form f) n x (plain_rel r) (plain_rel b)

-- of an input
abbrev pub plain_input : declared_input.Input → Input
plain_input i = record { name = i.name; arity = i.arity }

-- of a named relation
abbrev pub plain_let : LetTree → Let
plain_let l = record { name = l.name; value = plain_rel l.relation }

-- of an output
abbrev pub plain_output : OutputTree → Output
plain_output o = record { name = o.name; value = plain_rel o.relation }

-- of a program
abbrev pub plain_program : ProgramTree → Program
plain_program p = record { inputs = map plain_input p.inputs; lets = map plain_let p.lets; outputs = map plain_output p.outputs }
