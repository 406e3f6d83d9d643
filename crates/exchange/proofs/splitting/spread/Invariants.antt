use Rattle.std.proofs.Common.{◌≡◌, take, length}
use Rattle.rows.specs.FlatRows.{arity_of}
use Rattle.rows.specs.Counts.{runs}
use Rattle.exchange.specs.Homes.{home_of}
use Rattle.exchange.specs.Parts.{IsSpread}
use Rattle.exchange.proofs.splitting.spread.Given as goal

abbrev pub invariant-loop-k : goal.invariant-loop-k
invariant-loop-k l = (l.k-end ≡ length (runs l.batch)) × IsSpread (home_of l.routing l.workers l.sender) (arity_of l.batch) (take l.k (runs l.batch)) l.workers l.parts.items
