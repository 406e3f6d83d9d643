use Rattle.std.proofs.Common.{◌%◌, ◌∙◌, ap, ℕ, max, nat_eq}
use Rattle.workers.specs.ThreadSets.{member}
use Rattle.workers.proofs.Bits.{set_at}
use Rattle.workers.proofs.thread_set.ThreadSet.with.Goals as goal

pub returns : goal.returns
returns c = λ n. c.or.ensures n ∙ ap (λ (m : ℕ). max (member c.args.self n) m) (c.of.ensures n) ∙ set_at c.args.self.bits n (nat_eq n (c.args.thread % 64))
