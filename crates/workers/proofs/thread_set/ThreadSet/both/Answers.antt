use Rattle.std.proofs.lemmas.Nat.Bits.{bit_at_and}
use Rattle.workers.proofs.thread_set.ThreadSet.both.Goals as goal

pub returns : goal.returns
returns c = λ n. bit_at_and c.args.self.bits c.args.other.bits n
