use Rattle.vertices.proofs.Fitting.{batch_fits}
use Rattle.vertices.proofs.stateless.forward.Goals as goal

pub returns-clause-fits_sent : goal.returns-clause-fits_sent
returns-clause-fits_sent c = λ q. batch_fits c.args.batch c.len-count.ensures.runs c.len-count.ensures.all
