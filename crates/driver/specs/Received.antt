-- What the counters say that was taken in.
use Rattle.std.specs.Prelude.{ℕ, List}
use Rattle.semantics.specs.Multiset.{total}
use Rattle.board.specs.Outputs.{counted}
use Rattle.driver.specs.Tallies.{Rows}
use Rattle.driver.specs.declared.tally.Counts.{Counts}

-- how many records a vertex took in, at all workers
abbrev pub received_in : List Counts → ℕ
received_in row = counted (total (λ c. c.received) row)

-- the same of all vertices
abbrev pub received_of : Rows → ℕ
received_of rows = counted (total received_in rows)
