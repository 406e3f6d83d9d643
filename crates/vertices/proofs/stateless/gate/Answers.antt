use Rattle.std.proofs.Common.{Some, rules, arith}
use Rattle.vertices.proofs.Fitting.{batch_fits, both_sent, none_sent}
use Rattle.vertices.proofs.Sending.{gate_sends}
use Rattle.vertices.proofs.stateless.gate.Goals as goal

pub returns-then-turn-turns-clause-fits_sent : goal.returns-then-turn-turns-clause-fits_sent
returns-then-turn-turns-clause-fits_sent c = both_sent (Some c.args.batch) c.args.out.now.second c.args.out.now.asked (batch_fits c.args.batch c.len-count.ensures.runs c.len-count.ensures.all) (none_sent c.args.out.now.second (search rules))

pub returns-then-turn-turns-2-clause-sends : goal.returns-then-turn-turns-2-clause-sends
returns-then-turn-turns-2-clause-sends c = grind (arith, gate_sends)

pub returns-then-turn-turns-2-clause-fits_sent : goal.returns-then-turn-turns-2-clause-fits_sent
returns-then-turn-turns-2-clause-fits_sent c = both_sent c.args.out.now.first (Some c.args.batch) c.args.out.now.asked (none_sent c.args.out.now.first (search rules)) (batch_fits c.args.batch c.len-count.ensures.runs c.len-count.ensures.all)
