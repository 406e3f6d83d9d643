use Rattle.std.proofs.Common.{arith}
use Rattle.progress.specs.Sifting.{IsSifted}
use Rattle.progress.proofs.Orders.{other_way}
use Rattle.progress.proofs.tree.sift.Goals as goal

pub returns-else-counters_leq : goal.returns-else-counters_leq
returns-else-counters_leq c =
    IsSifted.swaps c.replace.ensures.after c.replace.ensures.value
    (other_way c.args.here.now.time c.args.entry.time (λ h. let t = c.counters_leq.ensures.1 h in let f = c.if-counters_leq.false in grind (arith)))
