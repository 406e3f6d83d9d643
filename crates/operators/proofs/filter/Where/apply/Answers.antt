use Rattle.std.proofs.Common.{rules}
use Rattle.expr_tree.specs.Plain.{plain_cond}
use Rattle.expr_tree.specs.Views.{cond_tree}
use Rattle.rows.specs.Counts.{runs}
use Rattle.operators.proofs.Steps.{all_kept, kept_different}
use Rattle.operators.proofs.filter.Where.apply.Goals as goal

pub returns-clause-records : goal.returns-clause-records
returns-clause-records c = all_kept (plain_cond (cond_tree c.args.self.now.condition)) c.args.batch.now (runs c.args.batch.now) c.loop-place.rows.runs c.loop-place.place c.len-place-end.ensures.all (search rules) c.loop-place.invariant.0

pub returns-clause-different : goal.returns-clause-different
returns-clause-different c = kept_different (plain_cond (cond_tree c.args.self.now.condition)) (runs c.args.batch.now) c.loop-place.rows.runs c.loop-place.place c.len-place-end.ensures.runs (search rules) c.loop-place.invariant.0
