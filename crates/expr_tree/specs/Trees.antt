-- The trees of a query as plain data, with the places of their nodes.
use Rattle.std.specs.Prelude.{ℕ, ℤ, List}
use Rattle.record_core.specs.declared.span.Span.{Span}
use Rattle.expr_tree.specs.declared.scalar.Operator.{Operator}
use Rattle.expr_tree.specs.declared.condition.Comparison.{Comparison}
use Rattle.expr_tree.specs.declared.condition.Connective.{Connective}
use Rattle.expr_tree.specs.declared.relation.Column.{Column}
use Rattle.expr_tree.specs.declared.relation.Pair.{Pair}
use Rattle.expr_tree.specs.declared.relation.Agg.{Agg}
use Rattle.expr_tree.specs.declared.relation.SetOperator.{SetOperator}
use Rattle.expr_tree.specs.declared.relation.LoopForm.{LoopForm}
use Rattle.expr_tree.specs.declared.program.Input.{Input}

-- a scalar
pub data ScalarTree : Type 0 where
  literal : Span → ℤ → ScalarTree
  column : Span → ℕ → ScalarTree
  binary : Span → Operator → ScalarTree → ScalarTree → ScalarTree
  negate : Span → ScalarTree → ScalarTree

-- a condition
pub data CondTree : Type 0 where
  compare : Span → Comparison → ScalarTree → ScalarTree → CondTree
  logical : Span → Connective → CondTree → CondTree → CondTree
  negate : Span → CondTree → CondTree

-- a relation; of a loop: its span and form, the span and number of its turns, the span and name of its variable, its start, its body
pub data RelTree : Type 0 where
  named : Span → List ℕ → RelTree
  select : Span → RelTree → List ScalarTree → RelTree
  filter : Span → RelTree → CondTree → RelTree
  set_operation : Span → SetOperator → RelTree → RelTree → RelTree
  join : Span → RelTree → RelTree → List Pair → RelTree
  group : Span → RelTree → List Column → List Agg → RelTree
  distinct : Span → RelTree → RelTree
  loop : Span → LoopForm → Span → ℕ → Span → List ℕ → RelTree → RelTree → RelTree

-- a named relation, with the span of its name
pub record LetTree : Type 0 where
  pub name_span : Span
  pub name : List ℕ
  pub relation : RelTree

-- an output, with the spans of its keyword and of its name
pub record OutputTree : Type 0 where
  pub keyword_span : Span
  pub name_span : Span
  pub name : List ℕ
  pub relation : RelTree

-- a program
pub record ProgramTree : Type 0 where
  pub inputs : List Input
  pub lets : List LetTree
  pub outputs : List OutputTree
