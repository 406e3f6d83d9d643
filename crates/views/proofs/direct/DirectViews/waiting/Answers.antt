use Rattle.std.proofs.Common.{suc, [], length, refl, arith}
use Rattle.machine.specs.Active.{sum_below}
use Rattle.machine.specs.Views.{Changes}
use Rattle.views.proofs.SenderSums.{sum_none}
use Rattle.views.proofs.direct.DirectViews.waiting.Goals as goal

pub returns : goal.returns
returns g c =
    let n = c.args.self.now.workers in
    let z = sum_none n (λ w. sum_below (suc n) (λ s. length {A = Changes} [])) (λ w. sum_none (suc n) (λ s. length {A = Changes} []) (λ s. refl)) in
    omega arith
