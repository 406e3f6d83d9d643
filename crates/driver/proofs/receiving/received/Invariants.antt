use Rattle.std.proofs.Common.{◌≡◌, take}
use Rattle.semantics.specs.Multiset.{total}
use Rattle.board.specs.Outputs.{counted}
use Rattle.driver.specs.Received.{received_in}
use Rattle.driver.proofs.receiving.received.Given as goal

abbrev pub invariant-vertices : goal.invariant-vertices
invariant-vertices l = l.all ≡ counted (total received_in (take l.vertex l.tally))
