-- The kinds of vertices of forms in memory.
use Rattle.std.specs.Prelude.{Bool, List, map}
use Rattle.expr_tree.specs.declared.scalar.Scalar.{Scalar}
use Rattle.expr_tree.specs.declared.condition.Cond.{Cond}
use Rattle.expr_tree.specs.declared.relation.Column.{Column}
use Rattle.expr_tree.specs.declared.relation.Pair.{Pair}
use Rattle.expr_tree.specs.declared.relation.Agg.{Agg}
use Rattle.expr_tree.specs.declared.relation.SetOperator.{SetOperator}
use Rattle.expr_tree.specs.declared.relation.SetOperator.TheVariants as operation
use Rattle.expr_tree.specs.Plain.{plain_agg, plain_cond, plain_pair}
use Rattle.expr_tree.specs.PlainLists.{plain_scalars}
use Rattle.expr_tree.specs.Views.{cond_tree}
use Rattle.semantics.specs.Kinds as semantics
use Rattle.semantics.specs.Lower as lower

-- of a select
abbrev pub select_kind : {A : Type 0} → List (Scalar A) → semantics.Kind
select_kind scalars = semantics.Kind.select (plain_scalars scalars)

-- of a where
abbrev pub where_kind : {A : Type 0} → Cond A → semantics.Kind
where_kind condition = semantics.Kind.filter (plain_cond (cond_tree condition))

-- of a join, or of a lookup
abbrev pub join_kind : (is_lookup : Bool) → List Pair → semantics.Kind
join_kind lookup pairs = lower.join_kind lookup (map plain_pair pairs)

-- of a group
abbrev pub group_kind : (keys : List Column) → List Agg → semantics.Kind
group_kind keys aggregates = semantics.Kind.group (map (λ k. k.index) keys) (map plain_agg aggregates)

-- of a set operation
abbrev pub operator_kind : SetOperator → semantics.Kind
operator_kind operation.Concat = semantics.Kind.concat
operator_kind operation.Except = semantics.Kind.except
operator_kind operation.Intersect = semantics.Kind.intersect
