use Rattle.workers.proofs.Bits.{but_bits}
use Rattle.workers.proofs.thread_set.difference.Goals as goal

pub returns : goal.returns
returns c = λ n. but_bits c.args.first c.args.second n c.ranges.first.fits c.ranges.second.fits
