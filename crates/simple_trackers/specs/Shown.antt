-- What these trackers show.
use Rattle.std.specs.Prelude.{ℕ, List}
use Rattle.semantics.specs.Could.{Pointstamp}
use Rattle.graph.specs.Shown.{GraphValue}
use Rattle.simple_trackers.specs.declared.counted.Counted.{Counted}

-- a tracker with a list of active pointstamps
pub record Listed : Type 0 where
  pub graph : GraphValue
  pub active : List Pointstamp
  pub spare : ℕ

-- a tracker with a list of active pointstamps and their counts
pub record ShownCounts : Type 0 where
  pub graph : GraphValue
  pub active : List Counted
  pub spare : ℕ
