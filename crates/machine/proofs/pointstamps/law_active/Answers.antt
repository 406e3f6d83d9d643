use Rattle.std.proofs.Common.{◌≡◌, refl, arith}
use Rattle.machine.specs.Active.{sum_below, worker_count}
use Rattle.machine.specs.World.{opening}
use Rattle.machine.proofs.Counting.{below_zero}
use Rattle.machine.proofs.Tracking.{active_counts, count_after}
use Rattle.machine.proofs.pointstamps.law_active.Goals as goal

pub returns-clause-counts : goal.returns-clause-counts
returns-clause-counts c = active_counts

pub returns-clause-step : goal.returns-clause-step
returns-clause-step c = count_after

pub returns-clause-opening : goal.returns-clause-opening
returns-clause-opening c = λ g workers p. let z : sum_below workers (worker_count opening p) ≡ 0 = below_zero workers (worker_count opening p) (λ k l. refl) in omega (arith, z)
