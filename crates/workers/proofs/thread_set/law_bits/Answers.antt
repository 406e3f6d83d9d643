use Rattle.workers.proofs.Bits.{few_bits}
use Rattle.workers.proofs.thread_set.law_bits.Goals as goal

pub returns : goal.returns
returns c = λ n. few_bits c.args.bits n c.ranges.bits.fits
