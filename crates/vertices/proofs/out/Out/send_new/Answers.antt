use Rattle.std.proofs.Common.{rules}
use Rattle.rows.specs.Counts.{expanded}
use Rattle.vertices.proofs.Fitting.{all_or_none, counted_sent}
use Rattle.rows.proofs.Runs.{all_fit, are_runs}
use Rattle.vertices.proofs.out.Out.send_new.Goals as goal

pub returns-clause-fits_second : goal.returns-clause-fits_second
returns-clause-fits_second c = counted_sent c.in_ok-batch.batch c.args.rows.runs c.requires c.is_empty-empty.ensures.counts (search rules)

pub returns-clause-fits_first : goal.returns-clause-fits_first
returns-clause-fits_first c = all_or_none c.args.around c.if-around.self.first (expanded c.args.rows.runs) (all_fit c.args.rows.runs (are_runs c.args.rows.runs c.requires c.is_empty-empty.ensures.counts)) (search rules)
