-- Whole records of a text.
use Rattle.std.specs.Prelude.{◌≡◌, ◌<◌, ◌≤◌, ◌==◌, ℕ, List, Some, count_by, length, take}
use Rattle.csv_strict.specs.Strict.{run}
use Rattle.csv_strict.specs.declared.state.State.{State}
use Rattle.csv_strict.specs.declared.state.State.TheVariants.{Record}

-- the number of line feeds
abbrev pub lines : List ℕ → ℕ
lines bytes = count_by (λ b. b == 10) bytes

-- whole records, the last of them ended by a line feed
abbrev pub AreWhole : List ℕ → Type 0
AreWhole bytes = run (Some Record) bytes ≡ Some Record

-- after these bytes comes that state, and if `count` isn't 0 a record ends behind that many of them
pub record IsScanned (before : State) (bytes : List ℕ) (count : ℕ) (after : State) : Type 0 where
  pub within : count ≤ length bytes
  pub reached : run (Some before) bytes ≡ Some after
  pub ends : 0 < count → run (Some before) (take count bytes) ≡ Some Record
