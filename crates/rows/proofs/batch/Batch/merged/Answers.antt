use Rattle.rows.proofs.Runs.{all_fit, are_runs}
use Rattle.rows.proofs.Merging.{merged_some, fit_alike}
use Rattle.rows.specs.Counts.{expanded}
use Rattle.rows.proofs.batch.Batch.merged.Goals as goal

pub returns-then-branch-clause-fits : goal.returns-then-branch-clause-fits
returns-then-branch-clause-fits c = all_fit c.args.rows.runs (are_runs c.args.rows.runs (c.in_ok-are_different.ensures c.if-branch.true) c.is_empty.ensures.counts)

pub returns-clause-some : goal.returns-clause-some
returns-clause-some c =
    merged_some c.in_ok-batch-2.batch c.in-Ok.different.runs c.args.rows.runs c.in-Ok.different.arity c.args.rows.arity c.in_ok-batch-2.ensures.arity c.in-Ok.ensures.arity c.in-Ok.ensures.records c.is_empty.ensures.counts

pub returns-clause-fits : goal.returns-clause-fits
returns-clause-fits c = fit_alike (expanded c.in-Ok.different.runs) (expanded c.args.rows.runs) c.in-Ok.ensures.records (all_fit c.in-Ok.different.runs c.in-Ok.ensures.runs)
