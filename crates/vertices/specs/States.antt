-- What the state of one time is, of the records that were absorbed then, by port.
use Rattle.std.specs.Prelude.{◌≡◌, ℕ, ◌<◌, Bool, if◌then◌else◌, List, [], ◌∷◌, ◌++◌, length, slice_index_or}
use Rattle.std.specs.List.{list_any}
use Rattle.rows.specs.Counts.{RunList, expanded, no_run, rows_of}
use Rattle.semantics.specs.Meaning.{in_both}
use Rattle.semantics.specs.Multiset.{Record, ◌≈◌, each_once, same}
use Rattle.vertices.specs.Kept.{more_at}
use Rattle.vertices.specs.declared.port_sets.PortSets.{PortSets}

-- the records of that arity, counted
abbrev pub IsSetOf : (arity : ℕ) → RunList → (ℕ → List Record) → Type 0
IsSetOf arity tally records = (tally.arity ≡ arity) × (expanded tally.runs ≈ records 0)

-- for each of two ports the records that came there, of that arity, counted
pub record AreSetsOf (arity : ℕ) (sets : PortSets) (records : ℕ → List Record) : Type 0 where
  pub left_arity : sets.left.arity ≡ arity
  pub right_arity : sets.right.arity ≡ arity
  pub lefts : expanded sets.left.runs ≈ records 0
  pub rights : expanded sets.right.runs ≈ records 1

-- the sets of the records that came to the two ports, of which there are some
abbrev pub AreSetsThen : (arity : ℕ) → PortSets → (ℕ → List Record) → Type 0
AreSetsThen arity sets records = AreSetsOf arity sets records × (0 < length (records 0 ++ records 1))

-- ---- what is gained by more records at a port; f has the records before, by port

-- by a distinct
abbrev pub DistinctGains : List Record → (sent : List Record) → (ℕ → List Record) → Type 0
DistinctGains records sent f = (sent ++ each_once (f 0)) ≈ each_once (f 0 ++ records)

-- by an intersect
abbrev pub IntersectGains : (port : ℕ) → List Record → (sent : List Record) → (ℕ → List Record) → Type 0
IntersectGains port records sent f = (sent ++ in_both (f 0) (f 1)) ≈ in_both (more_at f port records 0) (more_at f port records 1)

-- ---- rows of two ports

-- the rows that both tallies have
abbrev pub common_rows : RunList → RunList → List Record
common_rows tally other = in_both (rows_of tally.runs) (rows_of other.runs)

-- whether a row is at port 1
abbrev pub is_right : PortSets → Record → Bool
is_right sets row = list_any (λ x. same x row) (rows_of sets.right.runs)

-- the row at a place of port 0, unless it is at port 1
abbrev pub only_left_at : PortSets → (place : ℕ) → List Record
only_left_at sets place =
    if is_right sets (slice_index_or sets.left.runs place no_run).row then [] else (slice_index_or sets.left.runs place no_run).row ∷ []
