use Rattle.std.proofs.Common.{rules}
use Rattle.vertices.proofs.Fitting.{counted_sent}
use Rattle.vertices.proofs.out.Out.send.Goals as goal

pub returns-clause-fits : goal.returns-clause-fits
returns-clause-fits c = counted_sent c.in_ok-self.field-0 c.args.rows.runs c.requires c.is_empty-empty.ensures.counts (search rules)
