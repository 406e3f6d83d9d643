use Rattle.std.proofs.Common.{◌%◌, ◌-◌, ◌∙◌, ap, ℕ, min, nat_eq}
use Rattle.workers.specs.ThreadSets.{member}
use Rattle.workers.proofs.Bits.{clear_at}
use Rattle.workers.proofs.thread_set.ThreadSet.without.Goals as goal

pub returns : goal.returns
returns c = λ n. c.but.ensures n ∙ ap (λ (m : ℕ). min (member c.args.self n) (1 - m)) (c.of.ensures n) ∙ clear_at c.args.self.bits n (nat_eq n (c.args.thread % 64))
