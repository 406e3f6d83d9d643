use Rattle.std.proofs.Common.{rules, map, below_more}
use Rattle.expr_tree.specs.Plain.{plain_scalar}
use Rattle.expr_tree.specs.Views.{scalar_tree}
use Rattle.rows.specs.FlatRows.{arity_of}
use Rattle.rows.specs.Counts.{runs}
use Rattle.operators.proofs.Steps.{all_values, values_more}
use Rattle.operators.proofs.Columns.{kept_runs}
use Rattle.operators.proofs.select.select_all.Goals as goal

pub returns-clause-records : goal.returns-clause-records
returns-clause-records c = all_values (map plain_scalar (map scalar_tree c.args.scalars.now)) c.args.batch.now (runs c.args.batch.now) c.loop-place.made.runs c.loop-place.place c.len-place-end.ensures.all (search rules) c.loop-place.invariant.0

pub returns-clause-runs : goal.returns-clause-runs
returns-clause-runs c = kept_runs (arity_of c.args.batch.now) (map plain_scalar (map scalar_tree c.args.scalars.now)) (runs c.args.batch.now) c.loop-place.made.runs c.loop-place.place c.len-place-end.ensures.runs c.arity.ensures.each (search rules) c.loop-place.invariant.0 c.loop-place.invariant.3

pub loop-place-preserved : goal.loop-place-preserved
loop-place-preserved c = (
  values_more (map plain_scalar (map scalar_tree c.args.scalars.now)) (runs c.args.batch.now) c.loop-place.made.runs c.push_selected.new.made.runs c.loop-place.place (search rules) c.loop-place.invariant.0 c.in_ok-push_selected.ensures.rows,
  search rules,
  c.loop-place.invariant.2,
  below_more _ _ c.loop-place.invariant.3 c.in_ok-push_selected.ensures.range,
)
