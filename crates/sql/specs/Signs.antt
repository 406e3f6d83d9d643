-- The signs of operators and comparisons, as the tree has them.
use Rattle.std.specs.Prelude.{ℕ, List, codes}
use Rattle.expr_tree.specs.declared.scalar.Operator.{Operator}
use Rattle.expr_tree.specs.declared.scalar.Operator.TheVariants.{Add, Subtract, Multiply}
use Rattle.expr_tree.specs.declared.condition.Connective.{Connective}
use Rattle.expr_tree.specs.declared.condition.Connective.TheVariants.{And, Or}
use Rattle.expr_tree.specs.declared.relation.SetOperator.{SetOperator}
use Rattle.expr_tree.specs.declared.relation.SetOperator.TheVariants.{Concat, Except, Intersect}

-- an operator
abbrev pub operator_text : Operator → List ℕ
operator_text Add = codes " + "
operator_text Subtract = codes " - "
operator_text Multiply = codes " * "

-- a connective
abbrev pub connective_text : Connective → List ℕ
connective_text And = codes " AND "
connective_text Or = codes " OR "

-- an operator of sets
abbrev pub set_operator_text : SetOperator → List ℕ
set_operator_text Concat = codes " UNION ALL"
set_operator_text Except = codes " EXCEPT"
set_operator_text Intersect = codes " INTERSECT"
