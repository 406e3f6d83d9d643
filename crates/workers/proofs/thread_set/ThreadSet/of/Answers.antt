use Rattle.std.proofs.Common.{◌%◌, ◌<◌, ℕ, arith}
use Rattle.workers.proofs.Bits.{one_bit}
use Rattle.workers.proofs.thread_set.ThreadSet.of.Goals as goal

below : (n : ℕ) → n % 64 < 64
below n = search (arith)

pub returns : goal.returns
returns c = λ n. one_bit (c.args.thread % 64) n (below c.args.thread)
