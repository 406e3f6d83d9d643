use Rattle.std.proofs.Common.{◌≡◌, take}
use Rattle.semantics.specs.Multiset.{total}
use Rattle.board.specs.Outputs.{counted}
use Rattle.driver.specs.declared.tally.Counts.{Counts}
use Rattle.driver.proofs.receiving.received_by.Given as goal

abbrev pub invariant-workers : goal.invariant-workers
invariant-workers l = l.all ≡ counted (total (λ (c : Counts). c.received) (take l.counts-index l.row))
