use Rattle.std.proofs.lemmas.Nat.Bits.{bit_at_or}
use Rattle.workers.proofs.thread_set.ThreadSet.or.Goals as goal

pub returns : goal.returns
returns c = λ n. bit_at_or c.args.self.bits c.args.other.bits n
