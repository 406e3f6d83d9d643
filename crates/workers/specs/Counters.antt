-- Who publishes how many records were received, and what was published.
use Rattle.std.specs.Prelude.{◌≡◌, ◌≤◌, ℕ, Option, Some, None, option_map}
use Rattle.atomic_table.specs.Seated.{TableId}
use Rattle.driver.specs.Received.{received_of}
use Rattle.driver.specs.Tallies.{Rows}
use Rattle.workers.specs.declared.counters.Receipts.{Receipts}

-- the number that was published last; 0 without a publisher
abbrev pub published_by : Option Receipts → ℕ
published_by None = 0
published_by (Some r) = r.publisher.number

-- The publisher is the mark's, and without a mark there is none. It published at most what the counters say was received.
abbrev pub IsBehind : (mark : Option TableId) → Option Receipts → Rows → Type 0
IsBehind mark receipts rows = (mark ≡ option_map (λ r. r.publisher.table) receipts) × (published_by receipts ≤ received_of rows)
