use Rattle.workers.proofs.Bits.{some_bit}
use Rattle.workers.proofs.thread_set.is_zero.Goals as goal

pub returns : goal.returns
returns c = some_bit c.args.bits c.ranges.bits.fits
