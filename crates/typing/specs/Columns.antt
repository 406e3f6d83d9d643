-- The columns that a node names, in the order of the text, each with the arity that it is measured against.
use Rattle.std.specs.Prelude.{ℕ, nat_lt, cond, List, [], ◌∷◌, ◌++◌, Option, Some, None}
use Rattle.record_core.specs.declared.span.Span.{Span}
use Rattle.expr_tree.specs.declared.relation.Column.{Column}
use Rattle.expr_tree.specs.declared.relation.Pair.{Pair}
use Rattle.expr_tree.specs.declared.relation.Agg.{Agg}
use Rattle.expr_tree.specs.declared.relation.Agg.TheVariants as agg
use Rattle.expr_tree.specs.Trees.{ScalarTree, CondTree}

-- a column by its number, its place, and the arity of the relation that it is of
pub record ColumnUse : Type 0 where
  pub index : ℕ
  pub span : Span
  pub arity : ℕ

-- a column's use
abbrev pub column_use : ℕ → Column → ColumnUse
column_use n c = record { index = c.index; span = c.span; arity = n }

-- of a scalar over records of n fields
abbrev pub scalar_columns : ℕ → ScalarTree → List ColumnUse
scalar_columns n (ScalarTree.literal s z) = []
scalar_columns n (ScalarTree.column s c) = record { index = c; span = s; arity = n } ∷ []
scalar_columns n (ScalarTree.binary s o a b) = scalar_columns n a ++ scalar_columns n b
scalar_columns n (ScalarTree.negate s a) = scalar_columns n a

-- of a condition
abbrev pub cond_columns : ℕ → CondTree → List ColumnUse
cond_columns n (CondTree.compare s o a b) = scalar_columns n a ++ scalar_columns n b
cond_columns n (CondTree.logical s o c d) = cond_columns n c ++ cond_columns n d
cond_columns n (CondTree.negate s c) = cond_columns n c

-- of a join's pair: the left column is of the left relation, the right one of the right
abbrev pub pair_columns : ℕ → ℕ → Pair → List ColumnUse
pair_columns l m p = column_use l p.left ∷ column_use m p.right ∷ []

-- of a group's key
abbrev pub key_columns : ℕ → Column → List ColumnUse
key_columns n k = column_use n k ∷ []

-- of an aggregate
abbrev pub agg_columns : ℕ → Agg → List ColumnUse
agg_columns n (agg.Count s) = []
agg_columns n (agg.Sum s c) = column_use n c ∷ []
agg_columns n (agg.Min s c) = column_use n c ∷ []
agg_columns n (agg.Max s c) = column_use n c ∷ []

-- the place of the first column that its relation hasn't
abbrev pub first_beyond : List ColumnUse → Option Span
first_beyond [] = None
first_beyond (c ∷ cs) = cond (nat_lt c.index c.arity) (first_beyond cs) (Some c.span)
