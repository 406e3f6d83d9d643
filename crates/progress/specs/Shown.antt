-- What a tracker by location shows.
use Rattle.std.specs.Prelude.{ℕ, List}
use Rattle.graph.specs.Shown.{GraphValue}
use Rattle.progress.specs.TimeCounts.{TimeCounts}

-- a tracker with active times by location
pub record Located : Type 0 where
  pub graph : GraphValue
  pub edges : List TimeCounts
  pub vertices : List TimeCounts
  pub spare : ℕ
