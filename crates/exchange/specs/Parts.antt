-- A batch divided among workers.
use Rattle.std.specs.Prelude.{◌≡◌, ◌<◌, ℕ, zero, suc, ◌==◌, List, [], ◌∷◌, ◌++◌, filter, length, slice_index_or, flat_map}
use Rattle.rows.specs.Counts.{Run, RunList, expanded, no_run, rows_of}
use Rattle.rows.specs.Indexes.{AreDifferent}
use Rattle.semantics.specs.Multiset.{Record}
use Rattle.exchange.specs.declared.splitting.Parcel.{Parcel}

-- a parcel for a worker, or none if there are no records: no parcel is empty
abbrev pub parcel : (worker : ℕ) → List Record → List Parcel
parcel w [] = []
parcel w (r ∷ records) = record { worker = w; batch = r ∷ records } ∷ []

-- the parcels for the workers below n, in order: each has the records that go to its worker, in their order
abbrev pub parcels : (home : Record → ℕ) → List Record → ℕ → List Parcel
parcels home records zero = []
parcels home records (suc n) = parcels home records n ++ parcel n (filter (λ r. home r == n) records)

-- the records of all parcels
abbrev pub from_all : List Parcel → List Record
from_all ps = flat_map (λ p. p.batch) ps

-- no rows of that arity
abbrev pub no_rows : ℕ → RunList
no_rows a = record { arity = a; runs = [] }

-- for each worker below n, a list of the runs whose rows go there, in order
pub record IsSpread (home : Record → ℕ) (a : ℕ) (all : List Run) (n : ℕ) (parts : List RunList) : Type 0 where
  pub each : length parts ≡ n
  pub at : (k : ℕ) → k < n → slice_index_or parts k (no_rows a) ≡ record { arity = a; runs = filter (λ c. home c.row == k) all }

-- the rows of all these runs go to one worker
abbrev pub AllGoTo : (home : Record → ℕ) → (all : List Run) → (worker : ℕ) → Type 0
AllGoTo home all w = (k : ℕ) → k < length all → home (slice_index_or all k no_run).row ≡ w

-- the rows of each part are all different
abbrev pub AreAllDifferent : List RunList → Type 0
AreAllDifferent parts = (k : ℕ) (d : RunList) → k < length parts → AreDifferent (rows_of (slice_index_or parts k d).runs)

-- the parcels of lists for the workers from w on
abbrev pub gathered : ℕ → List RunList → List Parcel
gathered w [] = []
gathered w (part ∷ parts) = parcel w (expanded part.runs) ++ gathered (suc w) parts
