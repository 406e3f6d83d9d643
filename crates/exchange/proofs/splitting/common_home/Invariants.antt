use Rattle.std.proofs.Common.{◌≡◌, ◌<◌, ℕ}
use Rattle.std.specs.Prelude.{slice_index_or}
use Rattle.rows.specs.Counts.{runs, no_run}
use Rattle.exchange.specs.Homes.{home_of}
use Rattle.exchange.proofs.splitting.common_home.Given as goal

abbrev pub invariant-loop-k : goal.invariant-loop-k
invariant-loop-k l = (k : ℕ) → k < l.k → home_of l.routing l.workers l.sender (slice_index_or (runs l.batch) k no_run).row ≡ l.worker
