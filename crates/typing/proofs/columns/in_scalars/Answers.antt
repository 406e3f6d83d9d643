use Rattle.std.proofs.Common.{sym, ◌∙◌, arith}
use Rattle.expr_tree.specs.Views.{scalar_tree}
use Rattle.typing.specs.Columns.{scalar_columns}
use Rattle.typing.proofs.ColumnsBeyond.{next_some, next_none}
use Rattle.typing.proofs.columns.in_scalars.Goals as goal

pub returns-in-Some : goal.returns-in-Some
returns-in-Some g c = sym (c.loop-scalar.invariant ∙ next_some (scalar_columns c.args.arity) (scalar_tree {A = g.row.A.Denot}) c.args.scalars.now c.loop-scalar.scalar-index c.scalar-item.result c.in-Some.span (omega arith) c.scalar-item.is (sym c.in_scalar.ensures ∙ c.in-Some.is))

pub loop-scalar-preserved : goal.loop-scalar-preserved
loop-scalar-preserved g c = c.loop-scalar.invariant ∙ next_none (scalar_columns c.args.arity) (scalar_tree {A = g.row.A.Denot}) c.args.scalars.now c.loop-scalar.scalar-index c.scalar-item.result (omega arith) c.scalar-item.is (grind (arith))
