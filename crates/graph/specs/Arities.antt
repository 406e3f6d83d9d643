-- The arities of a graph's ports in memory.
use Rattle.std.specs.Prelude.{◌≡◌, ℕ, ◌<◌, List, length, slice_index_or}
use Rattle.semantics.specs.Query.{Program}
use Rattle.semantics.specs.Lower.{lowered}
use Rattle.semantics.specs.PortArity.{program_arities}

-- these are the arities of the program's vertices, in order
pub record AreArities (arities : List ℕ) (p : Program) : Type 0 where
  pub size : length arities ≡ length (lowered p)
  pub each : (v : ℕ) → v < length (lowered p) → slice_index_or arities v 0 ≡ slice_index_or (program_arities p) v 0
