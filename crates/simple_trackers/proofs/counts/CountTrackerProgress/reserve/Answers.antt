use Rattle.std.proofs.Common.{arith}
use Rattle.simple_trackers.proofs.CountsKept.{all_many}
use Rattle.simple_trackers.proofs.counts.CountTrackerProgress.reserve.Goals as goal

pub overflow_sub-repeated : goal.overflow_sub-repeated
overflow_sub-repeated c =
    let i = c.self.inside in
    let l = all_many i.active.items c.self.invariant.2.active in
    let o = i.active.ok.0 in
    let e = c.len.ensures in
    let t = c.self.invariant.0 in
    omega arith
